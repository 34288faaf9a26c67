-- What a run answers, and where its source tells its bytes, what it answers to them.
use Rattle.std.proofs.Common.{◌≡◌, ◌≢◌, ◌≤◌, ◌+◌, ◌-◌, ◌^◌, ◌↔◌, ℕ, List, ◌++◌, length, arith, subst, sym, ap, ◌∙◌, append-nil, length-append, inl, inr}
use Rattle.std.specs.Prelude.{◌⊎◌, Option, Some, None, slice_index}
use Rattle.std.specs.Io.KnownBytes.{Consumes, IsAtEnd}
use Rattle.edge.specs.Streams.{Exceeds}
use Rattle.merge_model.specs.declared.problem.Problem.{Problem}
use Rattle.merge_model.specs.Answers.{profile_of}
use Rattle.merge_model.specs.Merging.{LacksModel}
use Rattle.problem_reading.specs.declared.stop.TextFault.{TextFault}
use Rattle.problem_reading.specs.Spelling.{Spelled, FirstFault}
use Rattle.problem_laws.proofs.TextLaws.{spelled_or_faulty}
use Rattle.report_lines.specs.declared.kinds.Kind.{Kind}
use Rattle.report_lines.specs.declared.kinds.Kind.TheVariants as kind
use Rattle.report_lines.specs.declared.kinds.RefusedKind.{RefusedKind}
use Rattle.report_lines.specs.Judged.{IsAccepted, IsFirstWrong}
use Rattle.report_lines.specs.Parts.{Asked}
use Rattle.report_lines.specs.Places.{end_number}
use Rattle.report_lines.proofs.NeverBoth.{never}
use Rattle.report_lines.proofs.Once.{once}
use Rattle.merge_cli.specs.declared.commands.Command.{Command}
use Rattle.merge_cli.specs.declared.commands.Command.TheVariants.{Check, Bench}
use Rattle.merge_cli.specs.Commands.{usual_conflicts, IsCommand, IsNoCommand, merge_of, limit_of, ReadsProblem}
use Rattle.report_text.specs.Accepting.{IsBorneOutText}
use Rattle.merge_cli.specs.Bench.{BenchAnswers}
use Rattle.merge_cli.specs.Check.{accepted_text, wrong_line_text, CheckAnswers, accepted, wrong, StreamAnswers, at_end, early}
use Rattle.merge_cli.specs.Merge.{MergeAnswers, ReportsMerge, ReportsLack, ReportsSpent, main_vars, merged, inconsistent, gave_up}
use Rattle.merge_cli.specs.List.{Listing, ListAnswers, Lists, list_of, reported_by, bad_after_text, bad_after, listed, lacking, spent}
use Rattle.merge_cli.specs.Places.{IsPlaceOf}
use Rattle.merge_cli.specs.Refusals.{refusal_text, too_long_text}
use Rattle.merge_cli.specs.Rows.{ReadAnswers, too_long, of_text, refused, of_problem}
use Rattle.merge_cli.specs.Answers.{ProblemAnswers, TextAnswers, CommandAnswers, Answers, Answered, IsTooMuch, AsksText, AsksProblem, AsksCheck}
use Rattle.merge_cli.proofs.Laws.{reading_row, lacks, lacks_none, not_refused, refused_comes, refused_only, too_long_comes, too_long_only, names_a_line, row_of}
use Rattle.report_laws.proofs.EachReport.{one_kind}
use Rattle.merge_cli.proofs.OneKind.{same_kind}
use Rattle.merge_cli.proofs.Reported.{row_accepted, list_accepted, is_reported}
use Rattle.merge_cli.proofs.SameProblems.{equal_problems, equal_refusals}

exceeds_more : (limit : Option ℕ) (m n : ℕ) → m ≤ n → Exceeds limit m → Exceeds limit n
exceeds_more None m n h long = long
exceeds_more (Some most) m n h long = omega arith

-- the bytes that were read to the end are those that were left
all_read : (bytes : List ℕ) (now : Option (List ℕ)) (read : List ℕ) → Consumes (Some bytes) now read → IsAtEnd now → read ≡ bytes
all_read bytes None read lost end = absurd lost
all_read bytes (Some rest) read lost end = sym (lost ∙ ap (λ (r : List ℕ). read ++ r) end ∙ append-nil read)

-- a row for what was read is one for the bytes that were left
row_of_all : (limit : Option ℕ) (answers : List ℕ → ℕ → List ℕ → Type 0) (bytes : List ℕ) (now : Option (List ℕ)) (read : List ℕ) (status : ℕ) (text : List ℕ)
    → Consumes (Some bytes) now read → ReadAnswers limit answers now read status text → ReadAnswers limit answers now bytes status text
row_of_all limit answers bytes None read s text lost row = absurd lost
row_of_all limit answers bytes (Some rest) read s text lost (too_long long status said) =
    let whole : length bytes ≡ length read + length rest = ap (λ (b : List ℕ). length b) lost ∙ length-append read rest in
    too_long (exceeds_more limit (length read) (length bytes) (omega arith) long) status said
row_of_all limit answers bytes (Some rest) read s text lost (of_text end few row) =
    let P : List ℕ → Type 0 = λ b. ReadAnswers limit answers (Some rest) b s text in
    subst P (all_read bytes (Some rest) read lost end) (of_text end few row)

-- a problem has the row of the bytes that spell it, unless these are too long
problem_row : (command : Command) (bytes : List ℕ) (now : Option (List ℕ)) (status : ℕ) (text : List ℕ) (problem : Problem) → ReadsProblem command
    → ReadAnswers (limit_of command) (TextAnswers command) now bytes status text → Spelled bytes problem
    → ((status ≡ 1) × Exceeds (limit_of command) (length bytes)) ⊎ ProblemAnswers command problem status text
problem_row command bytes now s text p reads (too_long long status said) spelled = inl (status, long)
problem_row command bytes now s text p reads (of_text end few row) spelled =
    elim row [
      | refused fault first status said ↦ absurd (spelled_or_faulty bytes p fault spelled first)
      | of_problem q is answer ↦ (let P : Problem → Type 0 = λ r. ProblemAnswers command r s text in inr (subst P (equal_problems bytes q p is spelled) answer))
    ]

-- what `merge` answers with each of its statuses
merged_row : (asked : Asked) (problem : Problem) (status : ℕ) (text : List ℕ)
    → MergeAnswers asked problem status text → status ≡ 0 → ReportsMerge asked problem text
merged_row asked p s text (merged status reports) none = reports
merged_row asked p s text (inconsistent status reports) none = absurd (omega arith)
merged_row asked p s text (gave_up status reports) none = absurd (omega arith)

lacking_row : (asked : Asked) (problem : Problem) (status : ℕ) (text : List ℕ)
    → MergeAnswers asked problem status text → status ≡ 8 → ReportsLack asked problem text
lacking_row asked p s text (merged status reports) eight = absurd (omega arith)
lacking_row asked p s text (inconsistent status reports) eight = reports
lacking_row asked p s text (gave_up status reports) eight = absurd (omega arith)

spent_row : (asked : Asked) (problem : Problem) (status : ℕ) (text : List ℕ)
    → MergeAnswers asked problem status text → status ≡ 3 → ReportsSpent asked problem text
spent_row asked p s text (merged status reports) three = absurd (omega arith)
spent_row asked p s text (inconsistent status reports) three = absurd (omega arith)
spent_row asked p s text (gave_up status reports) three = reports

-- what `list` answers with each of its statuses
listed_row : (asked : Listing) (problem : Problem) (status : ℕ) (text : List ℕ) → ListAnswers asked problem status text → status ≡ 0 → Lists asked problem text
listed_row asked p s text (bad_after misfits status said) none = absurd (omega arith)
listed_row asked p s text (listed fits status lists) none = lists
listed_row asked p s text (lacking fits status reports) none = absurd (omega arith)
listed_row asked p s text (spent fits status reports) none = absurd (omega arith)

list_lacking_row : (asked : Listing) (problem : Problem) (status : ℕ) (text : List ℕ) → ListAnswers asked problem status text → status ≡ 8
    → ReportsLack (reported_by asked) problem text
list_lacking_row asked p s text (bad_after misfits status said) eight = absurd (omega arith)
list_lacking_row asked p s text (listed fits status lists) eight = absurd (omega arith)
list_lacking_row asked p s text (lacking fits status reports) eight = reports
list_lacking_row asked p s text (spent fits status reports) eight = absurd (omega arith)

list_spent_row : (asked : Listing) (problem : Problem) (status : ℕ) (text : List ℕ) → ListAnswers asked problem status text → status ≡ 3
    → ReportsSpent (reported_by asked) problem text
list_spent_row asked p s text (bad_after misfits status said) three = absurd (omega arith)
list_spent_row asked p s text (listed fits status lists) three = absurd (omega arith)
list_spent_row asked p s text (lacking fits status reports) three = absurd (omega arith)
list_spent_row asked p s text (spent fits status reports) three = reports

-- a place is refused exactly where it is none of the problem
misfit_row : (asked : Listing) (problem : Problem) (status : ℕ) (text : List ℕ) → ListAnswers asked problem status text
    → ((status ≡ 1) × (text ≡ bad_after_text)) ↔ (IsPlaceOf problem asked.place → ⊥)
misfit_row asked p s text (bad_after misfits status said) = ((λ h. misfits), (λ h. (status, said)))
misfit_row asked p s text (listed fits status lists) = ((λ h. absurd (let one = h.0 in omega arith)), (λ misfits. absurd (misfits fits)))
misfit_row asked p s text (lacking fits status reports) = ((λ h. absurd (let one = h.0 in omega arith)), (λ misfits. absurd (misfits fits)))
misfit_row asked p s text (spent fits status reports) = ((λ h. absurd (let one = h.0 in omega arith)), (λ misfits. absurd (misfits fits)))

-- the row of what was read that is neither too long nor has a fault
problem_of_row : (command : Command) (now : Option (List ℕ)) (read : List ℕ) (status : ℕ) (text : List ℕ) → ReadsProblem command
    → ReadAnswers (limit_of command) (TextAnswers command) now read status text → status ≢ 1 → (problem : Problem) × ProblemAnswers command problem status text
problem_of_row command now read s text reads (too_long long one said) other = absurd (other one)
problem_of_row command now read s text reads (of_text end few row) other =
    elim row [
      | refused fault first one said ↦ absurd (other one)
      | of_problem p spelled answer ↦ (p, answer)
    ]

-- what `check` answers
accepted_row : (bytes : List ℕ) (status : ℕ) (text : List ℕ) (k : Kind) → CheckAnswers bytes status text → IsAccepted bytes k
    → (status ≡ 0) × (text ≡ accepted_text k)
accepted_row bytes s text k (accepted l is true status said) right = (status, said ∙ ap (λ (m : Kind). accepted_text m) (one_kind bytes l k is right))
accepted_row bytes s text k (wrong line l is status said) right = absurd (never bytes k line l right is)

accepted_only_row : (bytes : List ℕ) (status : ℕ) (text : List ℕ) (k : Kind) → CheckAnswers bytes status text → status ≡ 0 → text ≡ accepted_text k
    → IsAccepted bytes k
accepted_only_row bytes s text k (accepted l is true status said) none says = subst (λ (m : Kind). IsAccepted bytes m) (same_kind l k (sym said ∙ says)) is
accepted_only_row bytes s text k (wrong line l is status said) none says = absurd (omega arith)

wrong_row : (bytes : List ℕ) (status : ℕ) (text : List ℕ) (line : ℕ) (k : RefusedKind) → CheckAnswers bytes status text → IsFirstWrong bytes line k
    → (status ≡ 7) × (text ≡ wrong_line_text line k)
wrong_row bytes s text line k (accepted l is true status said) first = absurd (never bytes l line k is first)
wrong_row bytes s text line k (wrong other l is status said) first =
    let same = once bytes other line l k is first in
    (status, said ∙ ap (λ (n : ℕ). wrong_line_text n l) same.0 ∙ ap (λ (m : RefusedKind). wrong_line_text line m) same.1)

-- what a check read is all that was left, or it was refused whatever else was
told_row : (bytes : List ℕ) (now : Option (List ℕ)) (read : List ℕ) (status : ℕ) (text : List ℕ) → Consumes (Some bytes) now read
    → StreamAnswers now read status text → CheckAnswers bytes status text
told_row bytes None read s text lost row = absurd lost
told_row bytes (Some rest) read s text lost (at_end end row) =
    subst (λ (b : List ℕ). CheckAnswers b s text) (all_read bytes (Some rest) read lost end) row
told_row bytes (Some rest) read s text lost (early line k first status said) =
    wrong line k (subst (λ (b : List ℕ). IsFirstWrong b line k) (sym lost) (first rest)) status said

-- a refusal is none of the texts of acceptance
says_refused : (line : ℕ) (k : RefusedKind) (m : Kind) → wrong_line_text line k ≡ accepted_text m → ⊥
says_refused line k kind.Merged same = let at : 114 ≡ 97 = ap (λ (t : List ℕ). slice_index t 0) same in omega (arith, at)
says_refused line k kind.Inconsistent same = let at : 114 ≡ 97 = ap (λ (t : List ℕ). slice_index t 0) same in omega (arith, at)
says_refused line k kind.Spent same = let at : 114 ≡ 97 = ap (λ (t : List ℕ). slice_index t 0) same in omega (arith, at)

accepted_at_end : (now : Option (List ℕ)) (read : List ℕ) (status : ℕ) (text : List ℕ) (k : Kind) → StreamAnswers now read status text → text ≡ accepted_text k
    → IsAtEnd now
accepted_at_end now read s text k (at_end end row) says = end
accepted_at_end now read s text k (early line l first status said) says = absurd (says_refused line l k (sym said ∙ says))

-- what is sent with the status of a reply answers as the reply does
pub as_sent : (words : List (List ℕ)) (before now : Option (List ℕ)) (room_before room_now wanted : ℕ) (said : List ℕ) (status : ℕ) (text : List ℕ)
    → Answered (Answers words) before now room_before room_now wanted said → (status ≢ 5 → status ≡ wanted) → text ≡ said
    → status ≢ 5 → Answered (Answers words) before now room_before room_now status text
as_sent words before now room_before room_now wanted said status text answered of same unless =
    let there = subst (λ (s : ℕ). Answered (Answers words) before now room_before room_now s said) (sym (of unless)) answered in
    subst (λ (t : List ℕ). Answered (Answers words) before now room_before room_now status t) (sym same) there

-- what a whole run says
module _ (words : List (List ℕ)) (before now : Option (List ℕ)) (room_before room_now status : ℕ) (text : List ℕ)
    (answered : Answered (Answers words) before now room_before room_now status text) where
  given : length answered.read ≡ room_before - room_now
  given = omega (arith, answered.gave.count)

  pub refused_words_run : (status ≡ 2) ↔ IsNoCommand words
  refused_words_run = (
    refused_only words now answered.read status text answered.answers,
    refused_comes words now answered.read status text answered.answers,
  )

  pub too_long_run : ((status ≡ 1) × (text ≡ too_long_text)) ↔ IsTooMuch words (room_before - room_now)
  too_long_run = (
    (λ said. subst (IsTooMuch words) given (too_long_only words now answered.read status text answered.answers said.0 said.1)),
    (λ much.
        too_long_comes words much.0 now answered.read status text answered.answers much.1
        (subst (Exceeds (limit_of much.0)) (sym given) much.2)),
  )

  pub at_end_run : (command : Command) → IsCommand words command → ReadsProblem command → ¬ (Exceeds (limit_of command) (room_before - room_now)) → IsAtEnd now
  at_end_run command of reads few =
      elim (reading_row command now answered.read status text reads (row_of words command now answered.read status text of answered.answers)) [
        | too_long long one said ↦ absurd (few (subst (Exceeds (limit_of command)) given long))
        | of_text end short row ↦ end
      ]

  pub told_run : (command : Command) (bytes : List ℕ) → AsksText before words command bytes
      → ReadAnswers (limit_of command) (TextAnswers command) now bytes status text
  told_run command bytes asks =
      let P : Option (List ℕ) → Type 0 = λ left. Consumes left now answered.read in
      row_of_all (limit_of command) (TextAnswers command) bytes now answered.read status text (subst P asks.0 answered.gave.known)
      (reading_row command now answered.read status text asks.2 (row_of words command now answered.read status text asks.1 answered.answers))

  pub refused_run : (command : Command) (bytes : List ℕ) → AsksText before words command bytes → (fault : TextFault) → FirstFault bytes fault
      → ¬ (Exceeds (limit_of command) (length bytes)) → (status ≡ 1) × (text ≡ refusal_text fault)
  refused_run command bytes asks fault first few =
      elim (told_run command bytes asks) [
        | too_long long one said ↦ absurd (few long)
        | of_text end short row ↦ elim row [
          | refused other found one said ↦ (one, said ∙ equal_refusals bytes other fault found first)
          | of_problem p is answer ↦ absurd (spelled_or_faulty bytes p fault is first)
        ]
      ]

  pub refused_only_run : (command : Command) (bytes : List ℕ) → AsksText before words command bytes → (fault : TextFault)
      → status ≡ 1 → text ≡ refusal_text fault → (first : TextFault) × FirstFault bytes first × (refusal_text first ≡ refusal_text fault)
  refused_only_run command bytes asks fault one says =
      elim (told_run command bytes asks) [
        | too_long long is said ↦ absurd (names_a_line fault (sym said ∙ says))
        | of_text end short row ↦ elim row [
          | refused first found is said ↦ (first, found, sym said ∙ says)
          | of_problem p is answer ↦ absurd ((not_refused command p status text answer one).1 fault says)
        ]
      ]

  pub problem_run : (command : Command) (bytes : List ℕ) → AsksText before words command bytes → (problem : Problem) → Spelled bytes problem
      → ¬ (Exceeds (limit_of command) (length bytes)) → ProblemAnswers command problem status text
  problem_run command bytes asks problem spelled few =
      elim (problem_row command bytes now status text problem asks.2 (told_run command bytes asks) spelled) [
        | inl long ↦ absurd (few long.1)
        | inr row ↦ row
      ]

  asked_row : (command : Command) (problem : Problem) → AsksProblem before words command problem → status ≢ 1 → ProblemAnswers command problem status text
  asked_row command problem asks other =
      elim (problem_row command asks.0 now status text problem asks.1.2 (told_run command asks.0 asks.1) asks.2) [
        | inl long ↦ absurd (other long.0)
        | inr row ↦ row
      ]

  pub lacking_run : (command : Command) (problem : Problem) → AsksProblem before words command problem → status ≡ 8 → LacksModel (profile_of problem)
  lacking_run command problem asks eight =
      lacks command problem status text (asked_row command problem asks (λ one. omega arith)) eight

  pub not_merged_run : (command : Command) (problem : Problem) → AsksProblem before words command problem → LacksModel (profile_of problem) → status ≢ 0
  not_merged_run command problem asks lack = λ none.
      lacks_none command problem status text (asked_row command problem asks (λ one. omega arith)) none lack

  pub merged_run : (asked : Asked) (problem : Problem) → AsksProblem before words (merge_of asked) problem → status ≡ 0 → ReportsMerge asked problem text
  merged_run asked problem asks none = merged_row asked problem status text (asked_row (merge_of asked) problem asks (λ one. omega arith)) none

  pub inconsistent_run : (asked : Asked) (problem : Problem) → AsksProblem before words (merge_of asked) problem → status ≡ 8 → ReportsLack asked problem text
  inconsistent_run asked problem asks eight = lacking_row asked problem status text (asked_row (merge_of asked) problem asks (λ one. omega arith)) eight

  pub gave_up_run : (asked : Asked) (problem : Problem) → AsksProblem before words (merge_of asked) problem → status ≡ 3 → ReportsSpent asked problem text
  gave_up_run asked problem asks three = spent_row asked problem status text (asked_row (merge_of asked) problem asks (λ one. omega arith)) three

  pub ample_run : (asked : Asked) (problem : Problem) → AsksProblem before words (merge_of asked) problem → 3 ^ main_vars asked problem ≤ asked.conflicts → status ≢ 3
  ample_run asked problem asks ample = λ three. let reports = gave_up_run asked problem asks three in omega (arith, reports.few, ample)

  pub reported_run : (asked : Asked) → IsCommand words (merge_of asked) → status ≢ 1 → (problem : Problem) × MergeAnswers asked problem status text
  reported_run asked of other =
      problem_of_row (merge_of asked) now answered.read status text tt
      (reading_row (merge_of asked) now answered.read status text tt (row_of words (merge_of asked) now answered.read status text of answered.answers)) other

  pub accepted_run : (asked : Asked) (k : Kind) → IsCommand words (merge_of asked) → status ≡ end_number k → IsAccepted text k
  accepted_run asked k of is =
      let reports = reported_run asked of (is_reported k status is).not_refused in
      row_accepted asked reports.0 status text k reports.1 is

  stream_row : IsCommand words Check → CommandAnswers Check now answered.read status text
  stream_row of = row_of words Check now answered.read status text of answered.answers

  pub streamed_run : IsCommand words Check → Answered (CommandAnswers Check) before now room_before room_now status text
  streamed_run of = record { read = answered.read; gave = answered.gave; answers = stream_row of }

  pub told_check_run : (bytes : List ℕ) → AsksCheck before words bytes → CheckAnswers bytes status text
  told_check_run bytes asks =
      let P : Option (List ℕ) → Type 0 = λ left. Consumes left now answered.read in
      told_row bytes now answered.read status text (subst P asks.0 answered.gave.known) (stream_row asks.1).1

  pub at_end_checked_run : (k : Kind) → IsCommand words Check → text ≡ accepted_text k → IsAtEnd now
  at_end_checked_run k of says = accepted_at_end now answered.read status text k (stream_row of).1 says

  pub checked_run : (bytes : List ℕ) → AsksCheck before words bytes → (k : Kind) → ((status ≡ 0) × (text ≡ accepted_text k)) ↔ IsAccepted bytes k
  checked_run bytes asks k = (
    (λ said. accepted_only_row bytes status text k (told_check_run bytes asks) said.0 said.1),
    accepted_row bytes status text k (told_check_run bytes asks),
  )

  pub checked_true_run : (bytes : List ℕ) → AsksCheck before words bytes → status ≡ 0 → (k : Kind) × (text ≡ accepted_text k) × IsBorneOutText bytes k
  checked_true_run bytes asks none = elim (told_check_run bytes asks) [
    | accepted k is true one said ↦ (k, said, true)
    | wrong line l is one said ↦ absurd (omega arith)
  ]

  pub refused_report_only_run : (bytes : List ℕ) → AsksCheck before words bytes → status ≡ 7
      → (line : ℕ) × (k : RefusedKind) × IsFirstWrong bytes line k × (text ≡ wrong_line_text line k)
  refused_report_only_run bytes asks seven = elim (told_check_run bytes asks) [
    | accepted l is true one said ↦ absurd (omega arith)
    | wrong line l is one said ↦ (line, l, is, said)
  ]

  pub refused_report_run : (bytes : List ℕ) → AsksCheck before words bytes → (line : ℕ) (k : RefusedKind) → IsFirstWrong bytes line k
      → (status ≡ 7) × (text ≡ wrong_line_text line k)
  refused_report_run bytes asks line k first = wrong_row bytes status text line k (told_check_run bytes asks) first

  -- what `bench` answers
  pub benched_run : (number : ℕ) → IsCommand words (Bench number) → BenchAnswers number status text
  benched_run number of = (row_of words (Bench number) now answered.read status text of answered.answers).1

  pub listed_run : (asked : Listing) (problem : Problem) → AsksProblem before words (list_of asked) problem → status ≡ 0 → Lists asked problem text
  listed_run asked problem asks none = listed_row asked problem status text (asked_row (list_of asked) problem asks (λ one. omega arith)) none

  pub list_lacks_run : (asked : Listing) (problem : Problem) → AsksProblem before words (list_of asked) problem → status ≡ 8 → ReportsLack (reported_by asked) problem text
  list_lacks_run asked problem asks eight = list_lacking_row asked problem status text (asked_row (list_of asked) problem asks (λ one. omega arith)) eight

  pub list_gave_up_run : (asked : Listing) (problem : Problem) → AsksProblem before words (list_of asked) problem → status ≡ 3 → ReportsSpent (reported_by asked) problem text
  list_gave_up_run asked problem asks three = list_spent_row asked problem status text (asked_row (list_of asked) problem asks (λ one. omega arith)) three

  pub list_ample_run : (asked : Listing) (problem : Problem) → AsksProblem before words (list_of asked) problem
      → 3 ^ main_vars (reported_by asked) problem ≤ usual_conflicts → status ≢ 3
  list_ample_run asked problem asks ample = λ three. let reports = list_gave_up_run asked problem asks three in omega (arith, reports.few, ample)

  pub bad_after_run : (asked : Listing) (bytes : List ℕ) → AsksText before words (list_of asked) bytes → (problem : Problem) → Spelled bytes problem
      → ¬ (Exceeds (limit_of (list_of asked)) (length bytes)) → ((status ≡ 1) × (text ≡ bad_after_text)) ↔ (IsPlaceOf problem asked.place → ⊥)
  bad_after_run asked bytes asks problem spelled few = misfit_row asked problem status text (problem_run (list_of asked) bytes asks problem spelled few)

  pub reported_list_run : (asked : Listing) → IsCommand words (list_of asked) → status ≢ 1 → (problem : Problem) × ListAnswers asked problem status text
  reported_list_run asked of other =
      problem_of_row (list_of asked) now answered.read status text tt
      (reading_row (list_of asked) now answered.read status text tt (row_of words (list_of asked) now answered.read status text of answered.answers)) other

  pub accepted_list_run : (asked : Listing) (k : Kind) → k ≢ kind.Merged → IsCommand words (list_of asked) → status ≡ end_number k → IsAccepted text k
  accepted_list_run asked k other of is =
      let reports = reported_list_run asked of (is_reported k status is).not_refused in
      list_accepted asked reports.0 status text k other reports.1 is
