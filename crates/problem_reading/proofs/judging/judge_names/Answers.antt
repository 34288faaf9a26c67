use Rattle.std.proofs.Common.{◌≡◌, ◌+◌, ◌≤◌, ◌<◌, ℕ, Bool, true, false, not, ◌||◌, map, length, nat_lt, length-append, sym, ◌∙◌, arith}
use Rattle.std.proofs.lemmas.Bool.Decides.{nat_tests}
use Rattle.std.proofs.lemmas.List.{length-map}
use Rattle.formulas.specs.Names.{are_distinct}
use Rattle.formulas.specs.Limits.{atom_limit}
use Rattle.line_tokens.specs.Lexemes.{lexeme_of}
use Rattle.problem_lines.specs.Forms.{words_of}
use Rattle.problem_reading.proofs.NameLists.{joined_names, all_names, word_count}
use Rattle.problem_reading.proofs.judging.judge_names.Goals as goal

no_twice : (d t : Bool) → d ≡ true → t ≡ false → (not d || t) ≡ false
no_twice d t e h = grind arith

over_count : (n k : ℕ) (long : Bool) → atom_limit < n + k → (nat_lt atom_limit (n + k) || long) ≡ true
over_count n k long h = grind (arith, nat_tests)

within_count : (n k : ℕ) (long : Bool) → n + k ≤ atom_limit → long ≡ false → (nat_lt atom_limit (n + k) || long) ≡ false
within_count n k long h e = grind (arith, nat_tests)

pub returns-then-tokens-len-clause-stop : goal.returns-then-tokens-len-clause-stop
returns-then-tokens-len-clause-stop c =
    let ts = map lexeme_of c.args.tokens.now in
    let size = word_count ts ∙ length-map c.args.tokens.now lexeme_of in
    let distinct : are_distinct (words_of ts) ≡ true = sym c.in_ok-are_distinct.ensures ∙ grind (arith, c.if-not-branch.false) in (
      sym c.if-any_reserved.ensures,
      no_twice _ _ distinct (sym c.if-any_declared.ensures),
      over_count (length c.args.declared.now.atoms) (length (words_of ts)) _ (omega (arith, size, c.if-tokens-len.true, c.len.ensures.number)),
    )

pub extended-requires-clause-few : goal.extended-requires-clause-few
extended-requires-clause-few c =
    let ts = map lexeme_of c.args.tokens.now in
    let size = word_count ts ∙ length-map c.args.tokens.now lexeme_of in
    omega (arith, size, c.if-tokens-len.false, c.len.ensures.number, c.len.ensures.few, length-append c.args.declared.now.atoms (words_of ts))

pub extended-requires-clause-names : goal.extended-requires-clause-names
extended-requires-clause-names c =
    let ts = map lexeme_of c.args.tokens.now in
    let distinct : are_distinct (words_of ts) ≡ true = sym c.in_ok-are_distinct.ensures ∙ grind (arith, c.if-not-branch.false) in
    joined_names c.args.declared.now.atoms (words_of ts) c.len.ensures.names
    (all_names ts c.requires.names (sym c.if-any_reserved.ensures) (sym c.if-any_long.ensures)) distinct (sym c.if-any_declared.ensures)

pub returns-clause-said : goal.returns-clause-said
returns-clause-said c =
    let ts = map lexeme_of c.args.tokens.now in
    let size = word_count ts ∙ length-map c.args.tokens.now lexeme_of in
    let distinct : are_distinct (words_of ts) ≡ true = sym c.in_ok-are_distinct.ensures ∙ grind (arith, c.if-not-branch.false) in (
      sym c.if-any_reserved.ensures,
      no_twice _ _ distinct (sym c.if-any_declared.ensures),
      within_count (length c.args.declared.now.atoms) (length (words_of ts)) _ (omega (arith, size, c.if-tokens-len.false, c.len.ensures.number, c.len.ensures.few)) (sym c.if-any_long.ensures),
      c.in_ok-extended.ensures,
    )
