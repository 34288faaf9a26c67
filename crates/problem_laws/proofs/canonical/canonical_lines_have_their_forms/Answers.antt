use Rattle.std.proofs.Common.{get_or, arith}
use Rattle.std.proofs.lemmas.List.Sums.{get_or-le-sum_by}
use Rattle.profile_text.proofs.NameLists.{name_of_item, same_default}
use Rattle.problem_laws.proofs.LineForms.{agent_form_of, atoms_form_of}
use Rattle.problem_laws.proofs.canonical.canonical_lines_have_their_forms.Goals as goal

pub returns-clause-atoms : goal.returns-clause-atoms
returns-clause-atoms c = let problem = c.args.problem.now in atoms_form_of problem.atoms problem.limits.atom_names problem.limits.some_atom

pub returns-clause-agents : goal.returns-clause-agents
returns-clause-agents c =
    let problem = c.args.problem.now in
    λ k d l.
    let agent = get_or problem.agents k d in
    let named = name_of_item (λ a. a.name) problem.agents k agent problem.limits.agent_names l (same_default problem.agents k d agent l) in
    agent_form_of problem.atoms agent named.0 (problem.limits.each_counts k d l)
    (omega (arith, get_or-le-sum_by (λ a. a.times) problem.agents k d l, problem.limits.few_times))
