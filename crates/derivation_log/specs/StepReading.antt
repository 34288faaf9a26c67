-- Reading the words of a step line, as a function on lists.
use Rattle.std.specs.Prelude.{◌≡◌, ℕ, if◌then◌else◌, List, [], ◌∷◌, ◌++◌, codes, Option, Some, None, MatchOption}
use Rattle.std.specs.Str.{bytes_eq}
use Rattle.report_words.specs.declared.numbers.WideLit.{WideLit}
use Rattle.report_words.specs.Numbers.{number_at, literal_at}
use Rattle.derivation_log.specs.declared.wide.WideLink.{WideLink}
use Rattle.derivation_log.specs.declared.step.StepKind.{StepKind}
use Rattle.derivation_log.specs.declared.step.StepKind.TheVariants.{Learned, Claimed}
use Rattle.derivation_log.specs.StepLines.{StepLine}

infixl 10 ◌>>=◌
abbrev pub ◌>>=◌ : {A B : Type 0} → Option A → (A → Option B) → Option B
(Some x) >>= f = f x
None >>= f = None

-- What a reader took is what reading gives. The words that are left are new.
abbrev pub Takes : {X Y : Type 0} → (X → Y) → Option X → List (List ℕ) → Option (Y × List (List ℕ)) → Type 0
Takes view result new read = MatchOption result (read ≡ None) (λ x. read ≡ Some (view x, new))

unfoldable pub number_then : List (List ℕ) → Option (ℕ × List (List ℕ))
number_then [] = None
number_then (w ∷ ws) = number_at w >>= λ n. Some (n, ws)

-- the words after this one
unfoldable pub word_then : List ℕ → List (List ℕ) → Option (List (List ℕ))
word_then word [] = None
word_then word (w ∷ ws) = if bytes_eq w word then Some ws else None

abbrev pub kind_at : List ℕ → Option StepKind
kind_at w = if bytes_eq w (codes "learned") then Some Learned else (if bytes_eq w (codes "claimed") then Some Claimed else None)

unfoldable pub kind_then : List (List ℕ) → Option (StepKind × List (List ℕ))
kind_then [] = None
kind_then (w ∷ ws) = kind_at w >>= λ k. Some (k, ws)

abbrev pub after_lits : List WideLit → Option (List WideLit × List (List ℕ)) → Option (List WideLit × List (List ℕ))
after_lits front read = read >>= λ x. Some (front ++ x.0, x.1)

unfoldable pub lits_then : List (List ℕ) → Option (List WideLit × List (List ℕ))
lits_then [] = None
lits_then (w ∷ ws) = if bytes_eq w (codes "0") then Some ([], ws) else (literal_at w >>= λ l. after_lits (l ∷ []) (lits_then ws))

abbrev pub after_links : List WideLink → Option (List WideLink) → Option (List WideLink)
after_links front read = read >>= λ x. Some (front ++ x)

unfoldable pub links_at : List (List ℕ) → Option (List WideLink)
links_at [] = Some []
links_at (p ∷ []) = None
links_at (p ∷ k ∷ ws) = literal_at p >>= λ l. number_at k >>= λ n. after_links (record { pivot = l; number = n } ∷ []) (links_at ws)

unfoldable pub step_at : List (List ℕ) → Option StepLine
step_at words = do
  later ← word_then (codes "step") words
  number ← number_then later
  kind ← kind_then number.1
  lits ← lits_then kind.1
  first ← number_then lits.1
  chain ← links_at first.1
  Some (record { number = number.0; kind = kind.0; clause = lits.0; first = first.0; chain = chain })
