use Rattle.std.proofs.Common.{inl, inr, refl, sym, ◌≢◌, ◌∙◌, arith}
use Rattle.merge_cli.proofs.Reported.{is_reported}
use Rattle.merge_cli.proofs.Laws.{no_stop}
use Rattle.merge_cli.specs.Answers.{Answers, Answered}
use Rattle.merge_cli.proofs.Told.{as_sent, refused_words_run, too_long_run, at_end_run, told_run, refused_run, refused_only_run, problem_run, lacking_run, not_merged_run, merged_run, inconsistent_run, gave_up_run, ample_run, reported_run, accepted_run, streamed_run, told_check_run, at_end_checked_run, checked_run, checked_true_run, refused_report_run, refused_report_only_run, bad_after_run, listed_run, list_lacks_run, list_gave_up_run, list_ample_run, benched_run, reported_list_run, accepted_list_run}
use Rattle.merge_cli.proofs.top.run.Goals as goal
use Rattle.merge_cli.proofs.top.run.Goals.{After-send}

-- but for a fault of writing, the run ends with the reply
sent : (g : _) (c : After-send g) → c.send.result.status ≢ 5 → Answered (Answers c.args.words.now)
    (g.S.Source.left c.args.source.now) (g.S.Source.left c.reply.new.source)
    (g.S.Source.room c.args.source.now) (g.S.Source.room c.reply.new.source)
    c.send.result.status c.send.result.text.items
sent g c = as_sent _ _ _ _ _ _ _ _ _ c.in-Ok.ensures.ok c.send.ensures.status c.send.ensures.text

pub send-requires : goal.send-requires
send-requires g c = (no_stop _ _ _ _ _ c.in-Ok.ensures.ok.answers).1

pub returns-in-Ok-clause-read_fault : goal.returns-in-Ok-clause-read_fault
returns-in-Ok-clause-read_fault g c = λ four. absurd ((no_stop _ _ _ _ _ (sent g c (λ five. omega arith)).answers).0 four)

pub returns-in-Ok-clause-read_fault_checked : goal.returns-in-Ok-clause-read_fault_checked
returns-in-Ok-clause-read_fault_checked g c = λ four. absurd ((no_stop _ _ _ _ _ (sent g c (λ five. omega arith)).answers).0 four)

pub returns-in-Ok-clause-stopped : goal.returns-in-Ok-clause-stopped
returns-in-Ok-clause-stopped g c = λ e. elim e [
  | inl four ↦ absurd ((no_stop _ _ _ _ _ (sent g c (λ five. omega arith)).answers).0 four)
  | inr six ↦ absurd ((no_stop _ _ _ _ _ (sent g c (λ five. omega arith)).answers).2 six)
]

pub returns-in-Ok-clause-refused_words : goal.returns-in-Ok-clause-refused_words
returns-in-Ok-clause-refused_words g c = λ five six. refused_words_run _ _ _ _ _ _ _ (sent g c five)

pub returns-in-Ok-clause-too_long : goal.returns-in-Ok-clause-too_long
returns-in-Ok-clause-too_long g c = λ four five six. too_long_run _ _ _ _ _ _ _ (sent g c five)

pub returns-in-Ok-clause-told : goal.returns-in-Ok-clause-told
returns-in-Ok-clause-told g c = λ command bytes asks four five six. told_run _ _ _ _ _ _ _ (sent g c five) command bytes asks

pub returns-in-Ok-clause-refused : goal.returns-in-Ok-clause-refused
returns-in-Ok-clause-refused g c =
    λ command bytes asks fault first few four five six. refused_run _ _ _ _ _ _ _ (sent g c five) command bytes asks fault first few

pub returns-in-Ok-clause-refused_only : goal.returns-in-Ok-clause-refused_only
returns-in-Ok-clause-refused_only g c =
    λ command bytes asks fault one. refused_only_run _ _ _ _ _ _ _ (sent g c (λ five. omega arith)) command bytes asks fault one

pub returns-in-Ok-clause-answered_problem : goal.returns-in-Ok-clause-answered_problem
returns-in-Ok-clause-answered_problem g c =
    λ command bytes asks problem spelled few four five six. problem_run _ _ _ _ _ _ _ (sent g c five) command bytes asks problem spelled few

pub returns-in-Ok-clause-lacking : goal.returns-in-Ok-clause-lacking
returns-in-Ok-clause-lacking g c = λ command problem asks eight. lacking_run _ _ _ _ _ _ _ (sent g c (λ five. omega arith)) command problem asks eight

pub returns-in-Ok-clause-lacking_not_merged : goal.returns-in-Ok-clause-lacking_not_merged
returns-in-Ok-clause-lacking_not_merged g c =
    λ command problem asks lack none. not_merged_run _ _ _ _ _ _ _ (sent g c (λ five. omega arith)) command problem asks lack none

pub returns-in-Ok-clause-merged : goal.returns-in-Ok-clause-merged
returns-in-Ok-clause-merged g c = λ asked problem asks none. merged_run _ _ _ _ _ _ _ (sent g c (λ five. omega arith)) asked problem asks none

pub returns-in-Ok-clause-inconsistent : goal.returns-in-Ok-clause-inconsistent
returns-in-Ok-clause-inconsistent g c =
    λ asked problem asks eight. inconsistent_run _ _ _ _ _ _ _ (sent g c (λ five. omega arith)) asked problem asks eight

pub returns-in-Ok-clause-gave_up : goal.returns-in-Ok-clause-gave_up
returns-in-Ok-clause-gave_up g c = λ asked problem asks three. gave_up_run _ _ _ _ _ _ _ (sent g c (λ five. omega arith)) asked problem asks three

pub returns-in-Ok-clause-never_gives_up : goal.returns-in-Ok-clause-never_gives_up
returns-in-Ok-clause-never_gives_up g c =
    λ asked problem asks ample three. ample_run _ _ _ _ _ _ _ (sent g c (λ five. omega arith)) asked problem asks ample three

pub returns-in-Ok-clause-reported : goal.returns-in-Ok-clause-reported
returns-in-Ok-clause-reported g c = λ asked of one four five six. reported_run _ _ _ _ _ _ _ (sent g c five) asked of one

pub returns-in-Ok-clause-accepted : goal.returns-in-Ok-clause-accepted
returns-in-Ok-clause-accepted g c = λ asked k of is. accepted_run _ _ _ _ _ _ _ (sent g c (is_reported k _ is).not_written) asked k of is

pub returns-in-Err-Failed-clause-accepted : goal.returns-in-Err-Failed-clause-accepted
returns-in-Err-Failed-clause-accepted g c = λ asked k of is. absurd ((is_reported k _ is).not_read refl)

pub returns-in-Err-NoMemory-clause-accepted : goal.returns-in-Err-NoMemory-clause-accepted
returns-in-Err-NoMemory-clause-accepted g c = λ asked k of is. absurd ((is_reported k _ is).not_memory refl)

pub returns-in-Ok-clause-bad_after : goal.returns-in-Ok-clause-bad_after
returns-in-Ok-clause-bad_after g c =
    λ asked bytes asks problem spelled few four five six. bad_after_run _ _ _ _ _ _ _ (sent g c five) asked bytes asks problem spelled few

pub returns-in-Ok-clause-listed : goal.returns-in-Ok-clause-listed
returns-in-Ok-clause-listed g c = λ asked problem asks none. listed_run _ _ _ _ _ _ _ (sent g c (λ five. omega arith)) asked problem asks none

pub returns-in-Ok-clause-list_lacks : goal.returns-in-Ok-clause-list_lacks
returns-in-Ok-clause-list_lacks g c =
    λ asked problem asks eight. list_lacks_run _ _ _ _ _ _ _ (sent g c (λ five. omega arith)) asked problem asks eight

pub returns-in-Ok-clause-list_gave_up : goal.returns-in-Ok-clause-list_gave_up
returns-in-Ok-clause-list_gave_up g c =
    λ asked problem asks three. list_gave_up_run _ _ _ _ _ _ _ (sent g c (λ five. omega arith)) asked problem asks three

pub returns-in-Ok-clause-list_never_gives_up : goal.returns-in-Ok-clause-list_never_gives_up
returns-in-Ok-clause-list_never_gives_up g c =
    λ asked problem asks ample three. list_ample_run _ _ _ _ _ _ _ (sent g c (λ five. omega arith)) asked problem asks ample three

pub returns-in-Ok-clause-list_answered : goal.returns-in-Ok-clause-list_answered
returns-in-Ok-clause-list_answered g c = λ asked of one four five six. reported_list_run _ _ _ _ _ _ _ (sent g c five) asked of one

pub returns-in-Ok-clause-list_accepted : goal.returns-in-Ok-clause-list_accepted
returns-in-Ok-clause-list_accepted g c =
    λ asked k other of is. accepted_list_run _ _ _ _ _ _ _ (sent g c (is_reported k _ is).not_written) asked k other of is

pub returns-in-Err-Failed-clause-list_accepted : goal.returns-in-Err-Failed-clause-list_accepted
returns-in-Err-Failed-clause-list_accepted g c = λ asked k other of is. absurd ((is_reported k _ is).not_read refl)

pub returns-in-Err-NoMemory-clause-list_accepted : goal.returns-in-Err-NoMemory-clause-list_accepted
returns-in-Err-NoMemory-clause-list_accepted g c = λ asked k other of is. absurd ((is_reported k _ is).not_memory refl)

pub returns-in-Ok-clause-streamed : goal.returns-in-Ok-clause-streamed
returns-in-Ok-clause-streamed g c = λ of four five six. streamed_run _ _ _ _ _ _ _ (sent g c five) of

pub returns-in-Ok-clause-told_check : goal.returns-in-Ok-clause-told_check
returns-in-Ok-clause-told_check g c = λ bytes asks four five six. told_check_run _ _ _ _ _ _ _ (sent g c five) bytes asks

pub returns-in-Ok-clause-checked : goal.returns-in-Ok-clause-checked
returns-in-Ok-clause-checked g c = λ bytes asks four five six k. checked_run _ _ _ _ _ _ _ (sent g c five) bytes asks k

pub returns-in-Ok-clause-checked_true : goal.returns-in-Ok-clause-checked_true
returns-in-Ok-clause-checked_true g c = λ bytes asks none. checked_true_run _ _ _ _ _ _ _ (sent g c (λ five. omega arith)) bytes asks none

pub returns-in-Ok-clause-refused_report : goal.returns-in-Ok-clause-refused_report
returns-in-Ok-clause-refused_report g c =
    λ bytes asks four five six line k first. refused_report_run _ _ _ _ _ _ _ (sent g c five) bytes asks line k first

pub returns-in-Ok-clause-refused_report_only : goal.returns-in-Ok-clause-refused_report_only
returns-in-Ok-clause-refused_report_only g c =
    λ bytes asks seven. refused_report_only_run _ _ _ _ _ _ _ (sent g c (λ five. omega arith)) bytes asks seven

pub returns-in-Ok-clause-at_end : goal.returns-in-Ok-clause-at_end
returns-in-Ok-clause-at_end g c = λ command is reads few four six. at_end_run _ _ _ _ _ _ _ c.in-Ok.ensures.ok command is reads few

pub returns-in-Ok-clause-at_end_checked : goal.returns-in-Ok-clause-at_end_checked
returns-in-Ok-clause-at_end_checked g c = λ k of says. at_end_checked_run _ _ _ _ _ _ _ c.in-Ok.ensures.ok k of (sym c.send.ensures.text ∙ says)

pub returns-in-Ok-clause-benched : goal.returns-in-Ok-clause-benched
returns-in-Ok-clause-benched g c = λ number of five six. benched_run _ _ _ _ _ _ _ (sent g c five) number of
