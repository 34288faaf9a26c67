-- Vectors and measures of lines.
use Rattle.std.proofs.Common.{◌≡◌, ℕ, ◌<◌, Bool, true, false, nat_le, nat_lt, if◌then◌else◌, List, ◌∷◌, length, map, codes, decimal, refl, sym, ap, subst, ◌∙◌, arith, Result}
use Rattle.std.specs.List.{AllByRecursion, list_all}
use Rattle.std.specs.Str.{bytes_eq}
use Rattle.std.proofs.lemmas.Bool.{ltb-true}
use Rattle.report_words.specs.Numbers.{HasNumeral}
use Rattle.report_words.specs.Words.{words_of}
use Rattle.report_lines.specs.declared.kinds.Due.{Due}
use Rattle.report_lines.specs.declared.kinds.Due.TheVariants as due
use Rattle.report_lines.specs.ClaimsDue.{DueClaim}
use Rattle.report_lines.specs.Following.{due_after_verdicts}
use Rattle.report_lines.specs.Items.{VectorLine}
use Rattle.report_lines.specs.Places.{Position, DueAt, agents_at}
use Rattle.report_text.specs.declared.answering.Answering.{Answering}
use Rattle.report_text.specs.declared.stop.LineStop.{LineStop}
use Rattle.report_text.specs.Answering.{position_of, FitsAt, IsMeasured}
use Rattle.report_text.specs.Judging.{JudgedAs}
use Rattle.report_text.specs.Taking.{Takes}
use Rattle.report_text.proofs.Unions.{taken}

pub same_all : (t u : ℕ) (xs ys : List ℕ) (b : Bool) → t ≡ u → xs ≡ ys → list_all (λ d. nat_le d t) xs ≡ b → list_all (λ d. nat_le d u) ys ≡ b
same_all t u xs ys b p q h = sym (ap (λ n. list_all (λ d. nat_le d n) xs) p ∙ ap (λ zs. list_all (λ d. nat_le d u) zs) q) ∙ h

pub same_test : (xs us ys vs : List ℕ) → xs ≡ us → ys ≡ vs → bytes_eq xs ys ≡ bytes_eq us vs
same_test xs us ys vs p q = ap (λ zs. bytes_eq zs ys) p ∙ ap (λ zs. bytes_eq us zs) q

pub vector_judged : {X : Type 0} (p : Position) (line : List ℕ) (numbers vector : List ℕ) (stands : Position → Type 0) (r : Result X LineStop) → vector ≡ numbers → words_of line ≡ codes "vector" ∷ map decimal numbers →
    length numbers ≡ agents_at p → AllByRecursion HasNumeral numbers → Takes p (VectorLine vector) stands r → JudgedAs (DueAt due.Vector p) p line stands r
vector_judged p line numbers vector stands r same words size numerals h =
    taken (DueAt due.Vector p) p line (VectorLine vector) stands r (λ q held e. (held, e)) (λ fails. fails)
    (vector, refl, ap length same ∙ size, subst (AllByRecursion HasNumeral) (sym same) numerals)
    (words ∙ ap (λ (ns : List ℕ). codes "vector" ∷ map decimal ns) (sym same)) h

pub due_here : (p : Position) (d e : Due) → d ≡ e → record p { due = d } ≡ record p { due = e }
due_here p d e is = ap (λ (x : Due). record p { due = x }) is

pub due_with : (p : Position) (d e : Due) (cs ds : List DueClaim) → d ≡ e → cs ≡ ds → record p { due = d; claims = cs } ≡ record p { due = e; claims = ds }
due_with p d e cs ds is same = ap (λ (x : Due). record p { due = x; claims = cs }) is ∙ ap (λ (x : List DueClaim). record p { due = e; claims = x }) same

after_measure : (a : Answering) → IsMeasured a → a.verdicts ≡ 0 → (t : Bool) → nat_lt 0 (length a.problem.asks) ≡ t → FitsAt (if t then due.Verdict else due.Main) a
after_measure a m e true is = let some : 0 < length a.problem.asks = ltb-true 0 (length a.problem.asks) is in (m, omega arith)
after_measure a m e false is = tt

-- what is known once the measure is read
pub fits_after_measure : (a : Answering) (d : Due) → d ≡ due_after_verdicts (position_of a) 0 → IsMeasured a → a.verdicts ≡ 0 → FitsAt d a
fits_after_measure a d is m e = subst (λ (k : Due). FitsAt k a) (sym is) (after_measure a m e (nat_lt 0 (length a.problem.asks)) refl)
