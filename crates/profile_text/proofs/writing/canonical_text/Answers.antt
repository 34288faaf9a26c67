use Rattle.std.proofs.Common.{◌≡◌, ◌++◌, map, ap, ◌∙◌}
use Rattle.profile_text.specs.ProblemText.{agent_line, ask_line, atoms_line, constraint_line, lines_text}
use Rattle.profile_text.proofs.Pieces.{four_parts}
use Rattle.profile_text.proofs.writing.canonical_text.Goals as goal

pub returns : goal.returns
returns c =
    let problem = c.args.problem.now in
    let agents : c.write_agent_lines.new.into.items ≡ c.write_constraint_line.new.into.items ++ lines_text (map (agent_line problem.atoms) problem.agents) =
    c.in_ok-write_agent_lines.ensures ∙ ap (λ xs. c.write_constraint_line.new.into.items ++ lines_text (map (agent_line problem.atoms) xs)) c.as_slice.ensures in
    let asks : c.write_ask_lines.new.into.items ≡ c.write_agent_lines.new.into.items ++ lines_text (map (ask_line problem.atoms) problem.asks) =
    c.in_ok-write_ask_lines.ensures ∙ ap (λ xs. c.write_agent_lines.new.into.items ++ lines_text (map (ask_line problem.atoms) xs)) c.as_slice-2.ensures in
    four_parts c.new-text.result.items c.write_atoms_line.new.into.items c.write_constraint_line.new.into.items c.write_agent_lines.new.into.items c.write_ask_lines.new.into.items
    (atoms_line problem.atoms) (constraint_line problem.atoms problem.constraint) (map (agent_line problem.atoms) problem.agents) (map (ask_line problem.atoms) problem.asks)
    c.new-text.ensures.items c.in_ok-write_atoms_line.ensures c.in_ok-write_constraint_line.ensures agents asks
