-- What stands while a text comes in pieces: a piece comes, a line is taken, a line is wrong, the text is over.
use Rattle.std.proofs.Common.{◌≡◌, ◌≢◌, ℕ, ◌+◌, Bool, true, false, cond, List, [], ◌∷◌, ◌++◌, refl, ap, sym, subst, ◌∙◌, append_assoc, length-append, arith}
use Rattle.std.specs.Prelude.{eqb}
use Rattle.std.specs.List.{onto_first}
use Rattle.std.proofs.lemmas.List.{append-nil}
use Rattle.std.proofs.lemmas.List.Splits.{slice_split_none, slice_split_at}
use Rattle.report_lines.specs.declared.kinds.Due.TheVariants as due
use Rattle.report_lines.specs.declared.kinds.RefusedKind.{RefusedKind}
use Rattle.report_lines.specs.declared.kinds.RefusedKind.TheVariants as refused
use Rattle.report_lines.specs.Places.{Position, start}
use Rattle.report_lines.specs.Judged.{IsRight, IsWrong, AreRight, IsWrongNext, pieces_of, unended, after_end, wrong_line, IsFirstWrong, IsAccepted}
use Rattle.report_text.specs.Accepting.{HasNoFeed}
use Rattle.report_text.specs.Open.{Open}

right_push : (p : Position) (ls : List (List ℕ)) (q : Position) (line : List ℕ) (r : Position) → AreRight p ls q → IsRight q line r → AreRight p (ls ++ line ∷ []) r
right_push p [] q line r e h = (r, subst (λ (m : Position). IsRight m line r) (sym e) h, refl)
right_push p (l ∷ ls) q line r a h = (a.0, a.1, right_push a.0 ls q line r a.2 h)

some_by : (c : Bool) (b : ℕ) (ps : List (List ℕ)) → (w : List ℕ) × (ws : List (List ℕ)) × (cond c ([] ∷ ps) (onto_first b ps) ≡ w ∷ ws)
some_by true b ps = ([], ps, refl)
some_by false b [] = (b ∷ [], [], refl)
some_by false b (p ∷ ps) = (b ∷ p, ps, refl)

some_piece : (t : List ℕ) → (w : List ℕ) × (ws : List (List ℕ)) × (pieces_of t ≡ w ∷ ws)
some_piece [] = ([], [], refl)
some_piece (b ∷ bs) = some_by (eqb b 10) b (pieces_of bs)

late_by : (c : Bool) (b : ℕ) (w : List ℕ) (ws : List (List ℕ)) (q : Position) → q.due ≡ due.Over → IsWrongNext q refused.Ended (cond c ([] ∷ w ∷ ws) (onto_first b (w ∷ ws)))
late_by true b w ws q over = after_end [] w ws over refl
late_by false b w [] q over = unended (b ∷ w) (λ o e. cc) refl
late_by false b w (v ∷ ws) q over = after_end (b ∷ w) v ws over refl

-- bytes come after the end
late_bytes : (rest more : List ℕ) (q : Position) → rest ≢ [] → q.due ≡ due.Over → IsWrongNext q refused.Ended (pieces_of (rest ++ more))
late_bytes [] more q some over = absurd (some refl)
late_bytes (b ∷ bs) more q some over =
    let n = some_piece (bs ++ more) in
    subst (λ (ps : List (List ℕ)). IsWrongNext q refused.Ended (cond (eqb b 10) ([] ∷ ps) (onto_first b ps))) (sym n.2) (late_by (eqb b 10) b n.0 n.1 q over)

-- a piece comes
pub open_feed : (text rest piece : List ℕ) (q : Position) (number : ℕ) → Open text rest q number → Open (text ++ piece) (rest ++ piece) q number
open_feed text rest piece q number s = record {
  before = s.before;
  whole = λ more. ap pieces_of (append_assoc text piece more) ∙ (s.whole (piece ++ more) ∙ ap (λ (x : List ℕ). s.before ++ pieces_of x) (sym (append_assoc rest piece more)));
  right = s.right;
  count = s.count;
}

first_piece : (rest line next more : List ℕ) → rest ≡ line ++ 10 ∷ next → HasNoFeed line → pieces_of (rest ++ more) ≡ line ∷ pieces_of (next ++ more)
first_piece rest line next more e none =
    let f : rest ++ more ≡ line ++ 10 ∷ (next ++ more) = ap (λ (x : List ℕ). x ++ more) e ∙ append_assoc line (10 ∷ next) more in
    ap pieces_of f ∙ slice_split_at (λ b. eqb b 10) line 10 (next ++ more) none refl

module _ (text rest : List ℕ) (q : Position) (number : ℕ) (s : Open text rest q number) where
  -- the first line of the rest
  module _ (line next : List ℕ) (e : rest ≡ line ++ 10 ∷ next) (none : HasNoFeed line) where
    -- it is right
    pub open_more : (r : Position) → IsRight q line r → Open text next r (number + 1)
    open_more r h = record {
      before = s.before ++ line ∷ [];
      whole = λ more. s.whole more ∙ (ap (λ (x : List (List ℕ)). s.before ++ x) (first_piece rest line next more e none) ∙ sym (append_assoc s.before (line ∷ []) (pieces_of (next ++ more))));
      right = right_push start s.before q line r s.right h;
      count = omega (arith, s.count, length-append s.before (line ∷ []));
    }

    two_pieces : (more : List ℕ) → pieces_of (text ++ more) ≡ s.before ++ line ∷ ((some_piece (next ++ more)).0 ∷ (some_piece (next ++ more)).1)
    two_pieces more =
        s.whole more ∙ ap (λ (x : List (List ℕ)). s.before ++ x) (first_piece rest line next more e none ∙ ap (λ (x : List (List ℕ)). line ∷ x) (some_piece (next ++ more)).2)

    -- it is wrong: so is each text that begins so
    pub open_wrong : (k : RefusedKind) → q.due ≢ due.Over → IsWrong q line k → (more : List ℕ) → IsFirstWrong (text ++ more) number k
    open_wrong k unfinished h more =
        let n = some_piece (next ++ more) in
        record { before = s.before; rest = line ∷ n.0 ∷ n.1; place = q; whole = two_pieces more; right = s.right; number = s.count; wrong = wrong_line line n.0 n.1 unfinished h }

    -- it comes after the end: so in each text that begins so
    pub open_late : q.due ≡ due.Over → (more : List ℕ) → IsFirstWrong (text ++ more) number refused.Ended
    open_late over more =
        let n = some_piece (next ++ more) in
        record { before = s.before; rest = line ∷ n.0 ∷ n.1; place = q; whole = two_pieces more; right = s.right; number = s.count; wrong = after_end line n.0 n.1 over refl }

  -- bytes come after the end: so in each text that begins so
  pub open_past : rest ≢ [] → q.due ≡ due.Over → (more : List ℕ) → IsFirstWrong (text ++ more) number refused.Ended
  open_past some over more = record { before = s.before; rest = pieces_of (rest ++ more); place = q; whole = s.whole more; right = s.right; number = s.count; wrong = late_bytes rest more q some over }

  open_last : HasNoFeed rest → pieces_of text ≡ s.before ++ rest ∷ []
  open_last none =
      ap pieces_of (sym (append-nil text)) ∙ (s.whole [] ∙ ap (λ (x : List (List ℕ)). s.before ++ x) (ap pieces_of (append-nil rest) ∙ slice_split_none (λ b. eqb b 10) rest none))

  -- the text is over, and so is the report
  pub open_over : HasNoFeed rest → rest ≡ [] → q.due ≡ due.Over → IsAccepted text q.kind
  open_over none e over = record { lines = s.before; place = q; whole = open_last none ∙ ap (λ (x : List ℕ). s.before ++ x ∷ []) e; right = s.right; over = over; answer = refl }

  -- the text is over, and the report is not
  pub open_unended : HasNoFeed rest → (q.due ≡ due.Over → rest ≡ [] → ⊥) → IsFirstWrong text number refused.Ended
  open_unended none unfinished = record { before = s.before; rest = rest ∷ []; place = q; whole = open_last none; right = s.right; number = s.count; wrong = unended rest unfinished refl }
