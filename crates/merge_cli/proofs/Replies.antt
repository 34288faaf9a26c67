-- The reply of a command is an answer to the words of that command.
use Rattle.std.proofs.Common.{◌≡◌, ℕ, List, subst, sym, ◌∙◌, inl, inr}
use Rattle.std.specs.Prelude.{Result, Ok, Err, IfOk, Option}
use Rattle.merge_model.specs.declared.operator.DistanceName.{DistanceName}
use Rattle.merge_model.specs.declared.operator.AggregatorName.{AggregatorName}
use Rattle.merge_model.specs.declared.problem.Problem.{Problem}
use Rattle.merge_cli.specs.declared.commands.Command.{Command}
use Rattle.merge_cli.specs.declared.commands.Command.TheVariants as variants
use Rattle.merge_cli.specs.declared.commands.Command.TheVariants.{Merge, Check}
use Rattle.merge_cli.specs.declared.place.Place.{Place}
use Rattle.merge_cli.specs.List.{ListAnswers}
use Rattle.merge_cli.specs.declared.reply.Reply.{Reply}
use Rattle.report_lines.specs.declared.kinds.Kind.{Kind}
use Rattle.merge_cli.specs.Check.{accepted_text, SaysWrong, GaveUndecided, CheckAnswers, accepted, wrong, StreamAnswers, at_end, early}
use Rattle.report_text.specs.Streaming.{IsJudgedFrom, IsAnswerFrom, IsRefusedFrom}
use Rattle.report_text.specs.declared.streaming.AcceptFromStop.{AcceptFromStop}
use Rattle.report_text.specs.declared.streaming.AcceptFromStop.TheVariants as stops
use Rattle.report_text.specs.declared.accepting.Refused.{Refused}
use Rattle.merge_cli.specs.Commands.{IsCommand}
use Rattle.merge_cli.specs.Answers.{Answers, Answered, CommandAnswers, ProblemAnswers, of_command}
use Rattle.merge_cli.specs.Merge.{MergeAnswers}

pub answered_by_command : {E : Type 0} (words : List (List ℕ)) (command : Command) (before now : Option (List ℕ)) (room_before room_now : ℕ) (result : Result Reply E)
    → IsCommand words command
    → IfOk result (λ reply. Answered (CommandAnswers command) before now room_before room_now reply.status reply.text.items)
    → IfOk result (λ reply. Answered (Answers words) before now room_before room_now reply.status reply.text.items)
answered_by_command words command before now room_before room_now (Ok reply) spelled answered =
    record { read = answered.read; gave = answered.gave; answers = of_command command spelled answered.answers }
answered_by_command words command before now room_before room_now (Err stop) spelled answered = tt

-- the reply of a merge is one to the problem
pub answered_by_merge : {E : Type 0} (command : Command) (distance : DistanceName) (aggregator : AggregatorName) (conflicts : ℕ) (problem : Problem) (result : Result Reply E)
    → command ≡ Merge distance aggregator conflicts
    → IfOk result (λ reply. MergeAnswers (record { distance = distance; aggregator = aggregator; conflicts = conflicts }) problem reply.status reply.text.items)
    → IfOk result (λ reply. ProblemAnswers command problem reply.status reply.text.items)
answered_by_merge command distance aggregator conflicts problem result is row =
    let P : Command → Type 0 = λ c. IfOk result (λ reply. ProblemAnswers c problem reply.status reply.text.items) in
    subst P (sym is) row

-- so is that of a list
pub answered_by_list : {E : Type 0} (command : Command) (distance : DistanceName) (aggregator : AggregatorName) (count : ℕ) (place : Place) (problem : Problem) (result : Result Reply E)
    → command ≡ variants.List distance aggregator count place
    → IfOk result (λ reply. ListAnswers (record { distance = distance; aggregator = aggregator; count = count; place = place }) problem reply.status reply.text.items)
    → IfOk result (λ reply. ProblemAnswers command problem reply.status reply.text.items)
answered_by_list command distance aggregator count place problem result is row =
    let P : Command → Type 0 = λ c. IfOk result (λ reply. ProblemAnswers c problem reply.status reply.text.items) in
    subst P (sym is) row

-- the replies of a check to what was judged of a source
module _ (before now : Option (List ℕ)) (room_before room_now status : ℕ) (text : List ℕ) where
  pub accepted_reply : (k : Kind) (line : List ℕ) → IsJudgedFrom before now room_before room_now (Ok k) → line ≡ accepted_text k
      → (status ≡ 0) × (text ≡ line) → Answered (CommandAnswers Check) before now room_before room_now status text
  accepted_reply k line judged said says =
      let answer = judged.answer in
      let row : CheckAnswers judged.text status text = accepted k answer.accepted answer.borne_out says.0 (says.1 ∙ said) in
      record { read = judged.text; gave = judged.gave; answers = (judged.needed, at_end answer.at_end row) }

  pub undecided_reply : (stop : AcceptFromStop) → IsJudgedFrom before now room_before room_now (Err stop) → stop ≡ stops.Failed
      → GaveUndecided before now room_before room_now
  undecided_reply stop judged is =
      let P : AcceptFromStop → Type 0 = λ other. IsAnswerFrom judged.text now (Err other) in
      (judged.text, judged.gave, subst P is judged.answer)

  pub wrong_line_reply : (stop : AcceptFromStop) (refused : Refused) → IsJudgedFrom before now room_before room_now (Err stop) → stop ≡ stops.Refused refused
      → SaysWrong refused status text → Answered (CommandAnswers Check) before now room_before room_now status text
  wrong_line_reply stop refused judged is says =
      let P : AcceptFromStop → Type 0 = λ other. IsAnswerFrom judged.text now (Err other) in
      let answer : IsRefusedFrom judged.text now refused = subst P is judged.answer in
      let row : StreamAnswers now judged.text status text = elim answer.lasting [
        | inl lasts ↦ early refused.line refused.kind lasts says.0 says.1
        | inr end ↦ at_end end (wrong refused.line refused.kind answer.first says.0 says.1)
      ] in
      record { read = judged.text; gave = judged.gave; answers = (judged.needed, row) }
