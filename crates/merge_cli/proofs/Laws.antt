-- The rows of the table of answers are apart.
use Rattle.std.proofs.Common.{◌≡◌, ◌≢◌, ℕ, List, [], ◌∷◌, length, arith, subst, sym, ap, refl, ◌∙◌, append-nil}
use Rattle.std.specs.Prelude.{Option, slice_index, decimal, codes}
use Rattle.std.proofs.lemmas.Fmt.{decimal_injective}
use Rattle.edge.specs.Streams.{Exceeds}
use Rattle.merge_model.specs.declared.problem.Problem.{Problem}
use Rattle.merge_model.specs.Answers.{profile_of}
use Rattle.merge_model.specs.Merging.{LacksModel}
use Rattle.merge_model.specs.OperatorWords.{distance_word, aggregator_word}
use Rattle.merge_model.proofs.OperatorWords.{one_distance, one_aggregator}
use Rattle.merge_model.specs.declared.operator.DistanceName.{DistanceName}
use Rattle.merge_model.specs.declared.operator.AggregatorName.{AggregatorName}
use Rattle.problem_reading.specs.declared.stop.TextFault.{TextFault}
use Rattle.report_lines.specs.Judged.{IsFirstWrong}
use Rattle.merge_cli.specs.declared.commands.Command.{Command}
use Rattle.merge_cli.specs.declared.commands.Command.TheVariants as variants
use Rattle.merge_cli.specs.declared.commands.Command.TheVariants.{Merge, Check, Bench}
use Rattle.merge_cli.specs.declared.place.Place.{Place}
use Rattle.merge_cli.specs.Commands.{IsMerge, unstated, stated, merge_words, IsList, list_words, IsCommand, IsNoCommand, limit_of, ReadsProblem}
use Rattle.merge_cli.specs.Bench.{BenchAnswers, benched}
use Rattle.merge_cli.specs.Bench as bench
use Rattle.merge_cli.specs.Check.{CheckAnswers, accepted, wrong, StreamAnswers, at_end, early}
use Rattle.merge_cli.specs.List.{bad_after, listed, lacking, spent}
use Rattle.merge_cli.specs.Merge.{merged, inconsistent, gave_up}
use Rattle.merge_cli.specs.Refusals.{refusal_text, too_long_text}
use Rattle.merge_cli.specs.Places.{IsPlace}
use Rattle.merge_cli.specs.Rows.{ReadAnswers, too_long, of_text, ProblemTextAnswers, refused, of_problem}
use Rattle.merge_cli.specs.Answers.{ProblemAnswers, TextAnswers, CommandAnswers, Answers, refused_words, of_command, IsTooMuch}
use Rattle.merge_cli.proofs.Listed.{list_lacks, list_lacks_none}
use Rattle.merge_cli.proofs.Places.{one_place}
use Rattle.merge_cli.proofs.Problems.{merge_lacks, merge_lacks_none}

-- The commands, one case each.

pub reading_row : (command : Command) (now : Option (List ℕ)) (read : List ℕ) (status : ℕ) (text : List ℕ) → ReadsProblem command
    → CommandAnswers command now read status text → ReadAnswers (limit_of command) (TextAnswers command) now read status text
reading_row (Merge d a b) now read s text reads row = row
reading_row Check now read s text reads row = absurd reads
reading_row (variants.List d a c p) now read s text reads row = row
reading_row (Bench n) now read s text reads row = absurd reads

pub lacks : (command : Command) (problem : Problem) (status : ℕ) (text : List ℕ) → ProblemAnswers command problem status text
    → status ≡ 8 → LacksModel (profile_of problem)
lacks (Merge d a b) p s text row = merge_lacks _ p s text row
lacks Check p s text row = absurd row
lacks (variants.List d a c q) p s text row = list_lacks _ p s text row
lacks (Bench n) p s text row = absurd row

pub lacks_none : (command : Command) (problem : Problem) (status : ℕ) (text : List ℕ) → ProblemAnswers command problem status text
    → status ≡ 0 → LacksModel (profile_of problem) → ⊥
lacks_none (Merge d a b) p s text row = merge_lacks_none _ p s text row
lacks_none Check p s text row = absurd row
lacks_none (variants.List d a c q) p s text row = list_lacks_none _ p s text row
lacks_none (Bench n) p s text row = absurd row

-- a status that a command answers: not that of refused words, and none that stops a run
pub record IsOwn (status : ℕ) : Type 0 where
  pub not_words : status ≢ 2
  pub not_read : status ≢ 4
  pub not_written : status ≢ 5
  pub not_memory : status ≢ 6

own_problem : (command : Command) (problem : Problem) (status : ℕ) (text : List ℕ) → ProblemAnswers command problem status text → IsOwn status
own_problem (Merge d a b) p s text (merged status reports) =
    record { not_words = λ e. omega arith; not_read = λ e. omega arith; not_written = λ e. omega arith; not_memory = λ e. omega arith }
own_problem (Merge d a b) p s text (inconsistent status reports) =
    record { not_words = λ e. omega arith; not_read = λ e. omega arith; not_written = λ e. omega arith; not_memory = λ e. omega arith }
own_problem (Merge d a b) p s text (gave_up status reports) =
    record { not_words = λ e. omega arith; not_read = λ e. omega arith; not_written = λ e. omega arith; not_memory = λ e. omega arith }
own_problem Check p s text row = absurd row
own_problem (variants.List d a c q) p s text (bad_after misfits status said) =
    record { not_words = λ e. omega arith; not_read = λ e. omega arith; not_written = λ e. omega arith; not_memory = λ e. omega arith }
own_problem (variants.List d a c q) p s text (listed fits status lists) =
    record { not_words = λ e. omega arith; not_read = λ e. omega arith; not_written = λ e. omega arith; not_memory = λ e. omega arith }
own_problem (variants.List d a c q) p s text (lacking fits status reports) =
    record { not_words = λ e. omega arith; not_read = λ e. omega arith; not_written = λ e. omega arith; not_memory = λ e. omega arith }
own_problem (variants.List d a c q) p s text (spent fits status reports) =
    record { not_words = λ e. omega arith; not_read = λ e. omega arith; not_written = λ e. omega arith; not_memory = λ e. omega arith }
own_problem (Bench n) p s text row = absurd row

own_benched : (number status : ℕ) (text : List ℕ) → BenchAnswers number status text → IsOwn status
own_benched n s text (benched p is status benches) =
    record { not_words = λ e. omega arith; not_read = λ e. omega arith; not_written = λ e. omega arith; not_memory = λ e. omega arith }
own_benched n s text (bench.gave_up p is status reports) =
    record { not_words = λ e. omega arith; not_read = λ e. omega arith; not_written = λ e. omega arith; not_memory = λ e. omega arith }

own_checked : (read : List ℕ) (status : ℕ) (text : List ℕ) → CheckAnswers read status text → IsOwn status
own_checked read s text (accepted k is true status said) =
    record { not_words = λ e. omega arith; not_read = λ e. omega arith; not_written = λ e. omega arith; not_memory = λ e. omega arith }
own_checked read s text (wrong line k is status said) =
    record { not_words = λ e. omega arith; not_read = λ e. omega arith; not_written = λ e. omega arith; not_memory = λ e. omega arith }

-- what a check read has the row that it would have as a whole text
checked_read : (now : Option (List ℕ)) (read : List ℕ) (status : ℕ) (text : List ℕ) → StreamAnswers now read status text → CheckAnswers read status text
checked_read now read s text (at_end end row) = row
checked_read now read s text (early line k first status said) =
    wrong line k (subst (λ (bytes : List ℕ). IsFirstWrong bytes line k) (append-nil read) (first [])) status said

-- a problem is not answered as a text is that is too long or has a fault
pub not_refused : (command : Command) (problem : Problem) (status : ℕ) (text : List ℕ) → ProblemAnswers command problem status text
    → status ≡ 1 → (text ≢ too_long_text) × ((fault : TextFault) → text ≢ refusal_text fault)
not_refused (Merge d a b) p s text (merged status reports) one = absurd (omega arith)
not_refused (Merge d a b) p s text (inconsistent status reports) one = absurd (omega arith)
not_refused (Merge d a b) p s text (gave_up status reports) one = absurd (omega arith)
not_refused Check p s text row one = absurd row
not_refused (variants.List d a c q) p s text (bad_after misfits status said) one = (
  (λ same. let at : 98 ≡ 116 = ap (λ (t : List ℕ). slice_index t 9) (sym said ∙ same) in omega (arith, at)),
  (λ fault same. let at : 58 ≡ 32 = ap (λ (t : List ℕ). slice_index t 7) (sym said ∙ same) in omega (arith, at)),
)
not_refused (variants.List d a c q) p s text (listed fits status lists) one = absurd (omega arith)
not_refused (variants.List d a c q) p s text (lacking fits status reports) one = absurd (omega arith)
not_refused (variants.List d a c q) p s text (spent fits status reports) one = absurd (omega arith)
not_refused (Bench n) p s text row one = absurd row

own_refusal : (status : ℕ) → status ≡ 1 → IsOwn status
own_refusal s one = record { not_words = λ e. omega arith; not_read = λ e. omega arith; not_written = λ e. omega arith; not_memory = λ e. omega arith }

own_problem_text : (command : Command) (read : List ℕ) (status : ℕ) (text : List ℕ) → ProblemTextAnswers (ProblemAnswers command) read status text → IsOwn status
own_problem_text command read s text (refused fault first status said) = own_refusal s status
own_problem_text command read s text (of_problem p spelled row) = own_problem command p s text row

own_streamed : (now : Option (List ℕ)) (read : List ℕ) (status : ℕ) (text : List ℕ) → StreamAnswers now read status text → IsOwn status
own_streamed now read s text row = own_checked read s text (checked_read now read s text row)

own_reading : (command : Command) (now : Option (List ℕ)) (read : List ℕ) (status : ℕ) (text : List ℕ)
    → ReadAnswers (limit_of command) (TextAnswers command) now read status text → IsOwn status
own_reading command now read s text (too_long long status said) = own_refusal s status
own_reading command now read s text (of_text end few row) = own_problem_text command read s text row

own_command : (command : Command) (now : Option (List ℕ)) (read : List ℕ) (status : ℕ) (text : List ℕ) → CommandAnswers command now read status text → IsOwn status
own_command (Merge d a b) now read s text row = own_reading (Merge d a b) now read s text row
own_command Check now read s text row = own_streamed now read s text row.1
own_command (variants.List d a c p) now read s text row = own_reading (variants.List d a c p) now read s text row
own_command (Bench n) now read s text row = own_benched n s text row.1

-- a refusal that names a line is another text than `too long`
pub names_a_line : (fault : TextFault) → too_long_text ≢ refusal_text fault
names_a_line fault same = let colon : 58 ≡ 32 = ap (λ (text : List ℕ). slice_index text 7) same in omega (arith, colon)

-- only a text that is too long is said to be
not_long : (command : Command) (read : List ℕ) (status : ℕ) (text : List ℕ) → TextAnswers command read status text → status ≡ 1 → text ≢ too_long_text
not_long command read s text (refused fault first status said) one = λ says. names_a_line fault (sym says ∙ said)
not_long command read s text (of_problem p spelled row) one = (not_refused command p s text row one).0

-- `check` and `bench` refuse no text so
checked_not_long : (read : List ℕ) (status : ℕ) (text : List ℕ) → CheckAnswers read status text → status ≢ 1
checked_not_long read s text (accepted k is true status said) = λ one. omega arith
checked_not_long read s text (wrong line k is status said) = λ one. omega arith

benched_not_long : (number : ℕ) (status : ℕ) (text : List ℕ) → BenchAnswers number status text → status ≢ 1
benched_not_long n s text (benched p is status benches) = λ one. omega arith
benched_not_long n s text (bench.gave_up p is status reports) = λ one. omega arith

pub refused_comes : (words : List (List ℕ)) (now : Option (List ℕ)) (read : List ℕ) (status : ℕ) (text : List ℕ)
    → Answers words now read status text → IsNoCommand words → status ≡ 2
refused_comes words now read s text (refused_words none unread two said) no_command = two
refused_comes words now read s text (of_command command of row) no_command = absurd (no_command command of)

pub refused_only : (words : List (List ℕ)) (now : Option (List ℕ)) (read : List ℕ) (status : ℕ) (text : List ℕ)
    → Answers words now read status text → status ≡ 2 → IsNoCommand words
refused_only words now read s text (refused_words none unread status said) two = none
refused_only words now read s text (of_command command of row) two = absurd ((own_command command now read s text row).not_words two)

-- what stops a run is no answer
pub no_stop : (words : List (List ℕ)) (now : Option (List ℕ)) (read : List ℕ) (status : ℕ) (text : List ℕ)
    → Answers words now read status text → (status ≢ 4) × (status ≢ 5) × (status ≢ 6)
no_stop words now read s text (refused_words none unread two said) = (λ e. omega arith, λ e. omega arith, λ e. omega arith)
no_stop words now read s text (of_command command of row) =
    let own = own_command command now read s text row in (own.not_read, own.not_written, own.not_memory)

too_long_reading : (command : Command) (now : Option (List ℕ)) (read : List ℕ) (status : ℕ) (text : List ℕ)
    → ReadAnswers (limit_of command) (TextAnswers command) now read status text → status ≡ 1 → text ≡ too_long_text → Exceeds (limit_of command) (length read)
too_long_reading command now read s text (too_long long status said) one says = long
too_long_reading command now read s text (of_text end few row) one says = absurd (not_long command read s text row one says)

too_long_command : (command : Command) (now : Option (List ℕ)) (read : List ℕ) (status : ℕ) (text : List ℕ)
    → CommandAnswers command now read status text → status ≡ 1 → text ≡ too_long_text → Exceeds (limit_of command) (length read)
too_long_command (Merge d a b) now read s text row = too_long_reading (Merge d a b) now read s text row
too_long_command Check now read s text row = λ one says. absurd (checked_not_long read s text (checked_read now read s text row.1) one)
too_long_command (variants.List d a c p) now read s text row = too_long_reading (variants.List d a c p) now read s text row
too_long_command (Bench n) now read s text row = λ one says. absurd (benched_not_long n s text row.1 one)

long_command : (command : Command) (now : Option (List ℕ)) (read : List ℕ) (status : ℕ) (text : List ℕ)
    → CommandAnswers command now read status text → Exceeds (limit_of command) (length read) → (status ≡ 1) × (text ≡ too_long_text)
long_command (Merge d a b) now read s text (too_long long status said) longer = (status, said)
long_command (Merge d a b) now read s text (of_text end few row) longer = absurd (few longer)
long_command Check now read s text row longer = absurd longer
long_command (variants.List d a c p) now read s text (too_long long status said) longer = (status, said)
long_command (variants.List d a c p) now read s text (of_text end few row) longer = absurd (few longer)
long_command (Bench n) now read s text row longer = absurd longer

pub too_long_only : (words : List (List ℕ)) (now : Option (List ℕ)) (read : List ℕ) (status : ℕ) (text : List ℕ)
    → Answers words now read status text → status ≡ 1 → text ≡ too_long_text → IsTooMuch words (length read)
too_long_only words now read s text (refused_words none unread two said) one says = absurd (omega arith)
too_long_only words now read s text (of_command command of row) one says = (command, of, too_long_command command now read s text row one says)

-- words are those of one command at most
same_merge : (d e : DistanceName) (a f : AggregatorName) (b c : ℕ) → merge_words d a ≡ merge_words e f → b ≡ c → Merge d a b ≡ Merge e f c
same_merge d e a f b c words number =
    let distance : distance_word d ≡ distance_word e = cc in
    let aggregator : aggregator_word a ≡ aggregator_word f = cc in
    ap (λ (n : DistanceName). Merge n a b) (one_distance d e distance) ∙ ap (λ (n : AggregatorName). Merge e n b) (one_aggregator a f aggregator) ∙ ap (λ (n : ℕ). Merge e f n) number

one_merge : (words : List (List ℕ)) (d e : DistanceName) (a f : AggregatorName) (b c : ℕ) → IsMerge words d a b → IsMerge words e f c → Merge d a b ≡ Merge e f c
one_merge words d e a f b c (unstated is usual) (unstated is_other usual_other) = same_merge d e a f b c (sym is ∙ is_other) (usual ∙ sym usual_other)
one_merge words d e a f b c (unstated is usual) (stated is_other few) =
    absurd (let three : 3 ≡ 4 = ap (λ (ws : List (List ℕ)). length ws) (sym is ∙ is_other) in omega (arith, three))
one_merge words d e a f b c (stated is few) (unstated is_other usual) =
    absurd (let four : 4 ≡ 3 = ap (λ (ws : List (List ℕ)). length ws) (sym is ∙ is_other) in omega (arith, four))
one_merge words d e a f b c (stated is few) (stated is_other few_other) =
    let same = sym is ∙ is_other in
    let distance : distance_word d ≡ distance_word e = cc in
    let aggregator : aggregator_word a ≡ aggregator_word f = cc in
    let number : decimal b ≡ decimal c = cc in
    ap (λ (n : DistanceName). Merge n a b) (one_distance d e distance) ∙ ap (λ (n : AggregatorName). Merge e n b) (one_aggregator a f aggregator)
    ∙ ap (λ (n : ℕ). Merge e f n) (decimal_injective b c (omega arith) (omega arith) number)

merge_is_no_check : (words : List (List ℕ)) (d : DistanceName) (a : AggregatorName) (b : ℕ) → IsMerge words d a b → IsCommand words Check → ⊥
merge_is_no_check words d a b (unstated is usual) check =
    let three : 3 ≡ 1 = ap (λ (ws : List (List ℕ)). length ws) (sym is ∙ check) in omega (arith, three)
merge_is_no_check words d a b (stated is few) check =
    let four : 4 ≡ 1 = ap (λ (ws : List (List ℕ)). length ws) (sym is ∙ check) in omega (arith, four)

one_list : (words : List (List ℕ)) (d e : DistanceName) (a f : AggregatorName) (b c : ℕ) (p q : Place) → IsList words d a b p → IsList words e f c q
    → variants.List d a b p ≡ variants.List e f c q
one_list words d e a f b c p q h k =
    let same : list_words d a b h.last ≡ list_words e f c k.last = sym h.spelled ∙ k.spelled in
    let distance : distance_word d ≡ distance_word e = cc in
    let aggregator : aggregator_word a ≡ aggregator_word f = cc in
    let number : decimal b ≡ decimal c = cc in
    let last : h.last ≡ k.last = cc in
    let begins = subst (λ (ws : List (List ℕ)). IsPlace ws p) last h.begins in
    let some = h.some in
    let other = k.some in
    ap (λ (n : DistanceName). variants.List n a b p) (one_distance d e distance) ∙ ap (λ (n : AggregatorName). variants.List e n b p) (one_aggregator a f aggregator)
    ∙ ap (λ (n : ℕ). variants.List e f n p) (decimal_injective b c (omega (arith, some.1)) (omega (arith, other.1)) number)
    ∙ ap (λ (n : Place). variants.List e f c n) (one_place k.last p q begins k.begins)

-- the words of commands of two kinds begin with others
begin_apart : (words first : List (List ℕ)) (b c : List ℕ) (second : List (List ℕ)) → words ≡ b ∷ first → words ≡ c ∷ second → length b ≢ length c → ⊥
begin_apart words first b c second h k apart = let same : b ≡ c = (let whole : b ∷ first ≡ c ∷ second = sym h ∙ k in cc) in apart (ap length same)

list_is_no_merge : (words : List (List ℕ)) (d e : DistanceName) (a f : AggregatorName) (b c : ℕ) (p : Place) → IsList words d a b p → IsMerge words e f c → ⊥
list_is_no_merge words d e a f b c p h (unstated is usual) = begin_apart words _ _ _ _ h.spelled is (λ same. let n : 4 ≡ 5 = same in omega (arith, n))
list_is_no_merge words d e a f b c p h (stated is few) = begin_apart words _ _ _ _ h.spelled is (λ same. let n : 4 ≡ 5 = same in omega (arith, n))

list_is_no_check : (words : List (List ℕ)) (d : DistanceName) (a : AggregatorName) (b : ℕ) (p : Place) → IsList words d a b p → IsCommand words Check → ⊥
list_is_no_check words d a b p h check = begin_apart words _ _ _ _ h.spelled check (λ same. let n : 4 ≡ 5 = same in omega (arith, n))

begin_same : (words first : List (List ℕ)) (b c : List ℕ) (second : List (List ℕ)) → words ≡ b ∷ first → words ≡ c ∷ second → b ≡ c
begin_same words first b c second h k = let whole : b ∷ first ≡ c ∷ second = sym h ∙ k in cc

one_bench : (words : List (List ℕ)) (n m : ℕ) → IsCommand words (Bench n) → IsCommand words (Bench m) → Bench n ≡ Bench m
one_bench words n m h k =
    let whole : codes "bench" ∷ decimal n ∷ [] ≡ codes "bench" ∷ decimal m ∷ [] = sym h.0 ∙ k.0 in
    let number : decimal n ≡ decimal m = cc in
    let few = h.1 in
    let other = k.1 in
    ap (λ (number : ℕ). Bench number) (decimal_injective n m (omega (arith, few.1)) (omega (arith, other.1)) number)

bench_is_no_check : codes "bench" ≡ codes "check" → ⊥
bench_is_no_check same = let at : 98 ≡ 99 = ap (λ (w : List ℕ). slice_index w 0) same in omega (arith, at)

bench_is_no_merge : (words : List (List ℕ)) (n : ℕ) (e : DistanceName) (f : AggregatorName) (c : ℕ) → IsCommand words (Bench n) → IsMerge words e f c → ⊥
bench_is_no_merge words n e f c h (unstated is usual) =
    let at : 98 ≡ 109 = ap (λ (w : List ℕ). slice_index w 0) (begin_same words _ _ _ _ h.0 is) in omega (arith, at)
bench_is_no_merge words n e f c h (stated is few) =
    let at : 98 ≡ 109 = ap (λ (w : List ℕ). slice_index w 0) (begin_same words _ _ _ _ h.0 is) in omega (arith, at)

pub one_command : (words : List (List ℕ)) (command other : Command) → IsCommand words command → IsCommand words other → command ≡ other
one_command words (Merge d a b) (Merge e f c) of of_other = one_merge words d e a f b c of of_other
one_command words (Merge d a b) Check of of_other = absurd (merge_is_no_check words d a b of of_other)
one_command words Check (Merge e f c) of of_other = absurd (merge_is_no_check words e f c of_other of)
one_command words (variants.List d a b p) (variants.List e f c q) of of_other = one_list words d e a f b c p q of of_other
one_command words (variants.List d a b p) (Merge e f c) of of_other = absurd (list_is_no_merge words d e a f b c p of of_other)
one_command words (Merge d a b) (variants.List e f c q) of of_other = absurd (list_is_no_merge words e d f a c b q of_other of)
one_command words (variants.List d a b p) Check of of_other = absurd (list_is_no_check words d a b p of of_other)
one_command words Check (variants.List e f c q) of of_other = absurd (list_is_no_check words e f c q of_other of)
one_command words Check Check of of_other = refl
one_command words (Bench n) (Bench m) of of_other = one_bench words n m of of_other
one_command words (Bench n) (Merge e f c) of of_other = absurd (bench_is_no_merge words n e f c of of_other)
one_command words (Merge d a b) (Bench m) of of_other = absurd (bench_is_no_merge words m d a b of_other of)
one_command words (Bench n) Check of of_other = absurd (bench_is_no_check (begin_same words _ _ _ _ of.0 of_other))
one_command words Check (Bench m) of of_other = absurd (bench_is_no_check (begin_same words _ _ _ _ of_other.0 of))
one_command words (Bench n) (variants.List e f c q) of of_other = absurd (begin_apart words _ _ _ _ of.0 of_other.spelled (λ same. omega (arith, same)))
one_command words (variants.List d a b p) (Bench m) of of_other = absurd (begin_apart words _ _ _ _ of_other.0 of.spelled (λ same. omega (arith, same)))

-- the row of the table that a run of this command has
pub row_of : (words : List (List ℕ)) (command : Command) (now : Option (List ℕ)) (read : List ℕ) (status : ℕ) (text : List ℕ)
    → IsCommand words command → Answers words now read status text → CommandAnswers command now read status text
row_of words command now read s text of (refused_words none unread two said) = absurd (none command of)
row_of words command now read s text of (of_command other of_other row) =
    let P : Command → Type 0 = λ c. CommandAnswers c now read s text in subst P (one_command words other command of_other of) row

pub too_long_comes : (words : List (List ℕ)) (command : Command) (now : Option (List ℕ)) (read : List ℕ) (status : ℕ) (text : List ℕ)
    → Answers words now read status text → IsCommand words command → Exceeds (limit_of command) (length read) → (status ≡ 1) × (text ≡ too_long_text)
too_long_comes words command now read s text (refused_words none unread two said) is longer = absurd (none command is)
too_long_comes words command now read s text (of_command other of row) is longer = long_command command now read s text (row_of words command now read s text is (of_command other of row)) longer
