-- What a search for a list comes to, as an answer of `list`.
use Rattle.std.proofs.Common.{◌≡◌, ◌≢◌, ℕ, ◌<◌, ◌^◌, Bool, List, [], length, sym, subst, ap, ◌∙◌, arith}
use Rattle.std.specs.Prelude.{Option, Result, Ok, Err, IfOk}
use Rattle.std.specs.Option.{ForSome}
use Rattle.derivation_log.specs.Logs.{Log}
use Rattle.solver_laws.specs.Ready.{IsLog}
use Rattle.merge_model.specs.declared.answer.Answer.{Answer}
use Rattle.merge_model.specs.declared.answer.Answer.TheVariants.{GaveUp}
use Rattle.merge_model.specs.declared.operator.AggregatorName.{AggregatorName}
use Rattle.merge_model.specs.declared.operator.DistanceName.{DistanceName}
use Rattle.merge_model.specs.declared.problem.Problem.{Problem}
use Rattle.merge_model.specs.Answers.{profile_of}
use Rattle.merge_model.specs.Merging.{LacksModel}
use Rattle.distance_search.specs.declared.answer.Consistency.{Consistency}
use Rattle.distance_search.specs.Laws.{Laws}
use Rattle.distance_search.specs.Results.{IsConsistency, AllNamed}
use Rattle.distance_search.specs.Setting.{IsOver}
use Rattle.closest_listing.specs.declared.lists.ClosestList.{ClosestList}
use Rattle.closest_listing.specs.declared.searching.ListEnd.{ListEnd}
use Rattle.closest_listing.specs.declared.searching.ListEnd.TheVariants as ends
use Rattle.closest_listing.specs.Lists.{IsListEnd, setting_named, list_text}
use Rattle.report_lines.specs.declared.report.Proof.{Proof}
use Rattle.report_lines.specs.Operators.{operator_named}
use Rattle.merge_reports.specs.Found.{HasSpent, IsSmall}
use Rattle.merge_reports.specs.Outcomes.{IsEnd, IsOutcome}
use Rattle.merge_reports.specs.Proofs.{naming_answer, naming_proofs}
use Rattle.merge_reports.proofs.Namings.{named_found}
use Rattle.merge_cli.specs.declared.place.Place.{Place}
use Rattle.merge_cli.specs.declared.place.Place.TheVariants.{Start, Above, TooLong}
use Rattle.merge_cli.specs.declared.reply.Reply.{Reply}
use Rattle.merge_cli.specs.Commands.{usual_conflicts}
use Rattle.merge_cli.specs.List.{Listing, ListAnswers, bad_after, listed, lacking, spent, reported_by, bad_after_text}
use Rattle.merge_cli.specs.Merge.{MergeAnswers, merged, inconsistent, gave_up, status_of}
use Rattle.merge_cli.specs.Places.{IsPlaceOf, above}
use Rattle.merge_cli.proofs.Problems.{named_has}

-- a place of the problem has as many truth values as it has atoms
pub place_sized : (problem : Problem) (place : Place) → IsPlaceOf problem place → ForSome (above place) (λ v. length v ≡ length problem.atoms)
place_sized p Start fits = λ v is. absurd (cc)
place_sized p (Above w) fits = λ v is. let same : w ≡ v = cc in subst (λ (u : List Bool). length u ≡ length p.atoms) same fits
place_sized p TooLong fits = absurd fits

-- the outcome of a search, which its report tells
module _ (distance : DistanceName) (aggregator : AggregatorName) (problem : Problem) (log : Log) (laws : Laws (setting_named distance aggregator problem))
    (over : IsOver (setting_named distance aggregator problem) log) (follows : IsLog log) (small : IsSmall log) where
  pub lacking_outcome : (found : Consistency) (answer : Answer) (proofs : List Proof) → IsConsistency (setting_named distance aggregator problem) log found → (AllNamed found → ⊥)
      → answer ≡ naming_answer found → proofs ≡ naming_proofs found → IsOutcome (operator_named distance aggregator problem.atoms) usual_conflicts problem log answer proofs
  lacking_outcome found answer proofs named lacks same same_proofs =
      let s = setting_named distance aggregator problem in
      record {
        laws = laws;
        over = over;
        follows = follows;
        small = small;
        end = subst (λ (a : Answer). IsEnd s log usual_conflicts a proofs) (sym same)
            (subst (λ (ps : List Proof). IsEnd s log usual_conflicts (naming_answer found) ps) (sym same_proofs) (named_found s log found named lacks));
      }

  pub spent_outcome : (answer : Answer) (proofs : List Proof) → answer ≡ GaveUp → proofs ≡ [] → HasSpent log usual_conflicts
      → IsOutcome (operator_named distance aggregator problem.atoms) usual_conflicts problem log answer proofs
  spent_outcome answer proofs same none has =
      record {
        laws = laws;
        over = over;
        follows = follows;
        small = small;
        end = subst (λ (a : Answer). IsEnd (setting_named distance aggregator problem) log usual_conflicts a proofs) (sym same) (none, has);
      }

-- a report that names formulas, and one that gave up, do not merge
pub names_not_merged : {E : Type 0} (result : Result Reply E) (found : Consistency) (answer : Answer) → answer ≡ naming_answer found
    → IfOk result (λ reply. reply.status ≡ status_of answer) → IfOk result (λ reply. reply.status ≢ 0)
names_not_merged (Ok reply) found answer same is =
    let eight : reply.status ≡ 8 = is ∙ ap (λ (a : Answer). status_of a) same in λ none. omega arith
names_not_merged (Err stop) found answer same is = tt

pub spent_not_merged : {E : Type 0} (result : Result Reply E) (answer : Answer) → answer ≡ GaveUp
    → IfOk result (λ reply. reply.status ≡ status_of answer) → IfOk result (λ reply. reply.status ≢ 0)
spent_not_merged (Ok reply) answer same is =
    let three : reply.status ≡ 3 = is ∙ ap (λ (a : Answer). status_of a) same in λ none. omega arith
spent_not_merged (Err stop) answer same is = tt

-- a search for a list that ended without one
module _ (distance : DistanceName) (aggregator : AggregatorName) (problem : Problem) (log : Log) (after : Option (List Bool)) (count : ℕ) (end : ListEnd)
    (ended : IsListEnd (setting_named distance aggregator problem) log usual_conflicts after count end) where
  pub lacking_of : (found : Consistency) → end ≡ ends.Lacking found → IsConsistency (setting_named distance aggregator problem) log found × (AllNamed found → ⊥)
  lacking_of found is = subst (λ (e : ListEnd). IsListEnd (setting_named distance aggregator problem) log usual_conflicts after count e) is ended

  pub spent_of : end ≡ ends.Spent → HasSpent log usual_conflicts
  spent_of is =
      let h = subst (λ (e : ListEnd). IsListEnd (setting_named distance aggregator problem) log usual_conflicts after count e) is ended in
      let spent = h.2 in
      let grown = spent.grown in
      record { before = h.0; grown = grown; few = subst (λ (n : ℕ). usual_conflicts < 3 ^ n) (sym grown.vars) spent.few }

-- a report on a problem answers a list that cannot be had
reported_row : (asked : Listing) (problem : Problem) (status : ℕ) (text : List ℕ) → IsPlaceOf problem asked.place → status ≢ 0
    → MergeAnswers (reported_by asked) problem status text → ListAnswers asked problem status text
reported_row asked p s text fits other (merged none reports) = absurd (other none)
reported_row asked p s text fits other (inconsistent eight reports) = lacking fits eight reports
reported_row asked p s text fits other (gave_up three reports) = spent fits three reports

pub report_answers : {E : Type 0} (asked : Listing) (given problem : Problem) (result : Result Reply E) → problem ≡ given → IsPlaceOf given asked.place
    → IfOk result (λ reply. reply.status ≢ 0) → IfOk result (λ reply. MergeAnswers (reported_by asked) problem reply.status reply.text.items)
    → IfOk result (λ reply. ListAnswers asked given reply.status reply.text.items)
report_answers asked given problem (Ok reply) same fits other row =
    reported_row asked given reply.status reply.text.items fits other (subst (λ (q : Problem). MergeAnswers (reported_by asked) q reply.status reply.text.items) same row)
report_answers asked given problem (Err stop) same fits other row = tt

-- the text of a list answers it
pub list_answers : {E : Type 0} (asked : Listing) (problem : Problem) (log : Log) (end : ListEnd) (list : ClosestList) (result : Result Reply E) → IsPlaceOf problem asked.place
    → IsListEnd (setting_named asked.distance asked.aggregator problem) log usual_conflicts (above asked.place) asked.count end → end ≡ ends.Listed list
    → IfOk result (λ reply. reply.status ≡ 0) → IfOk result (λ reply. reply.text.items ≡ list_text list.valuations.items list.more)
    → IfOk result (λ reply. ListAnswers asked problem reply.status reply.text.items)
list_answers asked p log end list (Ok reply) fits ended is none said =
    let h = subst (λ (e : ListEnd). IsListEnd (setting_named asked.distance asked.aggregator p) log usual_conflicts (above asked.place) asked.count e) is ended in
    listed fits none (record { valuations = list.valuations.items; more = list.more; first = h.1; spelled = said; consistent = h.0 })
list_answers asked p log end list (Err stop) fits ended is none said = tt

-- the refusal of a place
pub bad_after_answers : {E : Type 0} (asked : Listing) (problem : Problem) (result : Result Reply E) → (IsPlaceOf problem asked.place → ⊥)
    → IfOk result (λ reply. (reply.status ≡ 1) × (reply.text.items ≡ bad_after_text)) → IfOk result (λ reply. ListAnswers asked problem reply.status reply.text.items)
bad_after_answers asked p (Ok reply) misfits is = bad_after misfits is.0 is.1
bad_after_answers asked p (Err stop) misfits is = tt

-- a problem that a list finds to lack a model lacks one, and one of which a list is given lacks none
pub list_lacks : (asked : Listing) (problem : Problem) (status : ℕ) (text : List ℕ) → ListAnswers asked problem status text → status ≡ 8 → LacksModel (profile_of problem)
list_lacks asked p s text (bad_after misfits status said) eight = absurd (omega arith)
list_lacks asked p s text (listed fits status lists) eight = absurd (omega arith)
list_lacks asked p s text (lacking fits status reports) eight = named_has p reports.parts.answer reports.named
list_lacks asked p s text (spent fits status reports) eight = absurd (omega arith)

pub list_lacks_none : (asked : Listing) (problem : Problem) (status : ℕ) (text : List ℕ) → ListAnswers asked problem status text → status ≡ 0 → LacksModel (profile_of problem) → ⊥
list_lacks_none asked p s text (bad_after misfits status said) none lacks = absurd (omega arith)
list_lacks_none asked p s text (listed fits status lists) none lacks = lists.consistent lacks
list_lacks_none asked p s text (lacking fits status reports) none lacks = absurd (omega arith)
list_lacks_none asked p s text (spent fits status reports) none lacks = absurd (omega arith)
