-- Each exit of the walk, by the lemmas on parts.
use Rattle.std.proofs.Common.{refl, arith}
use Rattle.std.proofs.lemmas.Result.{on_ok_weaker, on_err_weaker}
use Rattle.clause_store.proofs.Outcomes.{on_err}
use Rattle.clause_translation.specs.Definition.{not_clauses, and_clauses, or_clauses, implies_clauses, iff_clauses}
use Rattle.clause_translation.proofs.Parts.{root_is, part_within, atom_list, atom_grew, not_parts, and_parts, or_parts, implies_parts, iff_parts, part_grew, one_grew, one_list, left_grew, right_room, right_known, right_range, right_grew, node_room, left_within, right_within, two_grew, two_list}
use Rattle.clause_translation.proofs.translate.+define_nodes.Goals as goal

pub returns-in_err-left-in-And-clause-err : goal.returns-in_err-left-in-And-clause-err
returns-in_err-left-in-And-clause-err t c =
    let is = and_parts c.args.formula.now c.get-in-And.result.now c.in-And.right c.in-And.left c.in-And.right c.in-And.is c.get-in-And.ensures refl in
    on_err c.from_residual-in_err-left-in-And.result (left_grew and_clauses c.args.formula.now c.get-in-And.result.now c.in-And.right c.args.atoms.now c.args.clauses.now is c.define_nodes-in-And.new.clauses c.in_err-left-in-And.ensures.err)

pub define_nodes-requires-in-And : goal.define_nodes-requires-in-And
define_nodes-requires-in-And t c =
    let is = and_parts c.args.formula.now c.get-in-And.result.now c.in-And.right c.in-And.left c.in-And.right c.in-And.is c.get-in-And.ensures refl in
    (omega (arith, is.nodes, c.decreases), (omega (arith, is.nodes, c.requires.room), (omega (arith, is.width, c.requires.known), c.requires.in_range)))

pub define_nodes-requires-in-And-2 : goal.define_nodes-requires-in-And-2
define_nodes-requires-in-And-2 t c =
    let is = and_parts c.args.formula.now c.get-in-And.result.now c.get-in-And-2.result.now c.in-And.left c.in-And.right c.in-And.is c.get-in-And.ensures c.get-in-And-2.ensures in
    let room = right_room and_clauses c.args.formula.now c.get-in-And.result.now c.get-in-And-2.result.now c.args.atoms.now c.args.clauses.now is c.define_nodes-in-And.new.clauses c.in_ok-left-in-And.ensures.list c.in_ok-left-in-And.ensures.vars c.requires.room in
    let known = right_known and_clauses c.args.formula.now c.get-in-And.result.now c.get-in-And-2.result.now c.args.atoms.now c.args.clauses.now is c.define_nodes-in-And.new.clauses c.in_ok-left-in-And.ensures.list c.in_ok-left-in-And.ensures.vars c.requires.known in
    let in_range = right_range and_clauses c.args.formula.now c.get-in-And.result.now c.get-in-And-2.result.now c.args.atoms.now c.args.clauses.now is c.define_nodes-in-And.new.clauses c.in_ok-left-in-And.ensures.list c.in_ok-left-in-And.ensures.vars c.requires.in_range in
    (omega (arith, is.nodes, c.decreases), (room, (known, in_range)))

pub returns-in_err-right-in-And-clause-err : goal.returns-in_err-right-in-And-clause-err
returns-in_err-right-in-And-clause-err t c =
    let is = and_parts c.args.formula.now c.get-in-And.result.now c.get-in-And-2.result.now c.in-And.left c.in-And.right c.in-And.is c.get-in-And.ensures c.get-in-And-2.ensures in
    on_err c.from_residual-in_err-right-in-And.result (right_grew and_clauses c.args.formula.now c.get-in-And.result.now c.get-in-And-2.result.now c.args.atoms.now c.args.clauses.now is c.define_nodes-in-And.new.clauses c.in_ok-left-in-And.ensures.list c.in_ok-left-in-And.ensures.vars c.define_nodes-in-And-2.new.clauses c.in_err-right-in-And.ensures.err)

pub and_node-requires-clause-room : goal.and_node-requires-clause-room
and_node-requires-clause-room t c =
    let is = and_parts c.args.formula.now c.get-in-And.result.now c.get-in-And-2.result.now c.in-And.left c.in-And.right c.in-And.is c.get-in-And.ensures c.get-in-And-2.ensures in
    node_room and_clauses c.args.formula.now c.get-in-And.result.now c.get-in-And-2.result.now c.args.atoms.now c.args.clauses.now is c.define_nodes-in-And.new.clauses c.in_ok-left-in-And.ensures.list c.in_ok-left-in-And.ensures.vars c.define_nodes-in-And-2.new.clauses c.in_ok-left-in-And.left c.in_ok-right-in-And.right c.in_ok-right-in-And.ensures.list c.in_ok-right-in-And.ensures.vars c.in_ok-left-in-And.ensures.root c.in_ok-right-in-And.ensures.root c.requires.room

pub and_node-requires-clause-left : goal.and_node-requires-clause-left
and_node-requires-clause-left t c =
    let is = and_parts c.args.formula.now c.get-in-And.result.now c.get-in-And-2.result.now c.in-And.left c.in-And.right c.in-And.is c.get-in-And.ensures c.get-in-And-2.ensures in
    left_within and_clauses c.args.formula.now c.get-in-And.result.now c.get-in-And-2.result.now c.args.atoms.now c.args.clauses.now is c.define_nodes-in-And.new.clauses c.in_ok-left-in-And.ensures.list c.in_ok-left-in-And.ensures.vars c.define_nodes-in-And-2.new.clauses c.in_ok-left-in-And.left c.in_ok-right-in-And.right c.in_ok-right-in-And.ensures.list c.in_ok-right-in-And.ensures.vars c.in_ok-left-in-And.ensures.root c.in_ok-right-in-And.ensures.root

pub and_node-requires-clause-right : goal.and_node-requires-clause-right
and_node-requires-clause-right t c =
    let is = and_parts c.args.formula.now c.get-in-And.result.now c.get-in-And-2.result.now c.in-And.left c.in-And.right c.in-And.is c.get-in-And.ensures c.get-in-And-2.ensures in
    right_within and_clauses c.args.formula.now c.get-in-And.result.now c.get-in-And-2.result.now c.args.atoms.now c.args.clauses.now is c.define_nodes-in-And.new.clauses c.in_ok-left-in-And.ensures.list c.in_ok-left-in-And.ensures.vars c.define_nodes-in-And-2.new.clauses c.in_ok-left-in-And.left c.in_ok-right-in-And.right c.in_ok-right-in-And.ensures.list c.in_ok-right-in-And.ensures.vars c.in_ok-left-in-And.ensures.root c.in_ok-right-in-And.ensures.root

pub returns-in_ok-right-in-And-clause-list : goal.returns-in_ok-right-in-And-clause-list
returns-in_ok-right-in-And-clause-list t c =
    let is = and_parts c.args.formula.now c.get-in-And.result.now c.get-in-And-2.result.now c.in-And.left c.in-And.right c.in-And.is c.get-in-And.ensures c.get-in-And-2.ensures in
    on_ok_weaker c.and_node.result (two_list and_clauses c.args.formula.now c.get-in-And.result.now c.get-in-And-2.result.now c.args.atoms.now c.args.clauses.now is c.define_nodes-in-And.new.clauses c.in_ok-left-in-And.ensures.list c.in_ok-left-in-And.ensures.vars c.define_nodes-in-And-2.new.clauses c.in_ok-left-in-And.left c.in_ok-right-in-And.right c.in_ok-right-in-And.ensures.list c.in_ok-right-in-And.ensures.vars c.in_ok-left-in-And.ensures.root c.in_ok-right-in-And.ensures.root c.and_node.new.clauses) c.and_node.ensures.list

pub returns-in_ok-right-in-And-clause-err : goal.returns-in_ok-right-in-And-clause-err
returns-in_ok-right-in-And-clause-err t c =
    let is = and_parts c.args.formula.now c.get-in-And.result.now c.get-in-And-2.result.now c.in-And.left c.in-And.right c.in-And.is c.get-in-And.ensures c.get-in-And-2.ensures in
    on_err_weaker c.and_node.result (two_grew and_clauses c.args.formula.now c.get-in-And.result.now c.get-in-And-2.result.now c.args.atoms.now c.args.clauses.now is c.define_nodes-in-And.new.clauses c.in_ok-left-in-And.ensures.list c.in_ok-left-in-And.ensures.vars c.define_nodes-in-And-2.new.clauses c.in_ok-left-in-And.left c.in_ok-right-in-And.right c.in_ok-right-in-And.ensures.list c.in_ok-right-in-And.ensures.vars c.in_ok-left-in-And.ensures.root c.in_ok-right-in-And.ensures.root c.and_node.new.clauses) c.and_node.ensures.err

pub returns-in_err-left-in-Or-clause-err : goal.returns-in_err-left-in-Or-clause-err
returns-in_err-left-in-Or-clause-err t c =
    let is = or_parts c.args.formula.now c.get-in-Or.result.now c.in-Or.right c.in-Or.left c.in-Or.right c.in-Or.is c.get-in-Or.ensures refl in
    on_err c.from_residual-in_err-left-in-Or.result (left_grew or_clauses c.args.formula.now c.get-in-Or.result.now c.in-Or.right c.args.atoms.now c.args.clauses.now is c.define_nodes-in-Or.new.clauses c.in_err-left-in-Or.ensures.err)

pub define_nodes-requires-in-Or : goal.define_nodes-requires-in-Or
define_nodes-requires-in-Or t c =
    let is = or_parts c.args.formula.now c.get-in-Or.result.now c.in-Or.right c.in-Or.left c.in-Or.right c.in-Or.is c.get-in-Or.ensures refl in
    (omega (arith, is.nodes, c.decreases), (omega (arith, is.nodes, c.requires.room), (omega (arith, is.width, c.requires.known), c.requires.in_range)))

pub define_nodes-requires-in-Or-2 : goal.define_nodes-requires-in-Or-2
define_nodes-requires-in-Or-2 t c =
    let is = or_parts c.args.formula.now c.get-in-Or.result.now c.get-in-Or-2.result.now c.in-Or.left c.in-Or.right c.in-Or.is c.get-in-Or.ensures c.get-in-Or-2.ensures in
    let room = right_room or_clauses c.args.formula.now c.get-in-Or.result.now c.get-in-Or-2.result.now c.args.atoms.now c.args.clauses.now is c.define_nodes-in-Or.new.clauses c.in_ok-left-in-Or.ensures.list c.in_ok-left-in-Or.ensures.vars c.requires.room in
    let known = right_known or_clauses c.args.formula.now c.get-in-Or.result.now c.get-in-Or-2.result.now c.args.atoms.now c.args.clauses.now is c.define_nodes-in-Or.new.clauses c.in_ok-left-in-Or.ensures.list c.in_ok-left-in-Or.ensures.vars c.requires.known in
    let in_range = right_range or_clauses c.args.formula.now c.get-in-Or.result.now c.get-in-Or-2.result.now c.args.atoms.now c.args.clauses.now is c.define_nodes-in-Or.new.clauses c.in_ok-left-in-Or.ensures.list c.in_ok-left-in-Or.ensures.vars c.requires.in_range in
    (omega (arith, is.nodes, c.decreases), (room, (known, in_range)))

pub returns-in_err-right-in-Or-clause-err : goal.returns-in_err-right-in-Or-clause-err
returns-in_err-right-in-Or-clause-err t c =
    let is = or_parts c.args.formula.now c.get-in-Or.result.now c.get-in-Or-2.result.now c.in-Or.left c.in-Or.right c.in-Or.is c.get-in-Or.ensures c.get-in-Or-2.ensures in
    on_err c.from_residual-in_err-right-in-Or.result (right_grew or_clauses c.args.formula.now c.get-in-Or.result.now c.get-in-Or-2.result.now c.args.atoms.now c.args.clauses.now is c.define_nodes-in-Or.new.clauses c.in_ok-left-in-Or.ensures.list c.in_ok-left-in-Or.ensures.vars c.define_nodes-in-Or-2.new.clauses c.in_err-right-in-Or.ensures.err)

pub or_node-requires-clause-room : goal.or_node-requires-clause-room
or_node-requires-clause-room t c =
    let is = or_parts c.args.formula.now c.get-in-Or.result.now c.get-in-Or-2.result.now c.in-Or.left c.in-Or.right c.in-Or.is c.get-in-Or.ensures c.get-in-Or-2.ensures in
    node_room or_clauses c.args.formula.now c.get-in-Or.result.now c.get-in-Or-2.result.now c.args.atoms.now c.args.clauses.now is c.define_nodes-in-Or.new.clauses c.in_ok-left-in-Or.ensures.list c.in_ok-left-in-Or.ensures.vars c.define_nodes-in-Or-2.new.clauses c.in_ok-left-in-Or.left c.in_ok-right-in-Or.right c.in_ok-right-in-Or.ensures.list c.in_ok-right-in-Or.ensures.vars c.in_ok-left-in-Or.ensures.root c.in_ok-right-in-Or.ensures.root c.requires.room

pub or_node-requires-clause-left : goal.or_node-requires-clause-left
or_node-requires-clause-left t c =
    let is = or_parts c.args.formula.now c.get-in-Or.result.now c.get-in-Or-2.result.now c.in-Or.left c.in-Or.right c.in-Or.is c.get-in-Or.ensures c.get-in-Or-2.ensures in
    left_within or_clauses c.args.formula.now c.get-in-Or.result.now c.get-in-Or-2.result.now c.args.atoms.now c.args.clauses.now is c.define_nodes-in-Or.new.clauses c.in_ok-left-in-Or.ensures.list c.in_ok-left-in-Or.ensures.vars c.define_nodes-in-Or-2.new.clauses c.in_ok-left-in-Or.left c.in_ok-right-in-Or.right c.in_ok-right-in-Or.ensures.list c.in_ok-right-in-Or.ensures.vars c.in_ok-left-in-Or.ensures.root c.in_ok-right-in-Or.ensures.root

pub or_node-requires-clause-right : goal.or_node-requires-clause-right
or_node-requires-clause-right t c =
    let is = or_parts c.args.formula.now c.get-in-Or.result.now c.get-in-Or-2.result.now c.in-Or.left c.in-Or.right c.in-Or.is c.get-in-Or.ensures c.get-in-Or-2.ensures in
    right_within or_clauses c.args.formula.now c.get-in-Or.result.now c.get-in-Or-2.result.now c.args.atoms.now c.args.clauses.now is c.define_nodes-in-Or.new.clauses c.in_ok-left-in-Or.ensures.list c.in_ok-left-in-Or.ensures.vars c.define_nodes-in-Or-2.new.clauses c.in_ok-left-in-Or.left c.in_ok-right-in-Or.right c.in_ok-right-in-Or.ensures.list c.in_ok-right-in-Or.ensures.vars c.in_ok-left-in-Or.ensures.root c.in_ok-right-in-Or.ensures.root

pub returns-in_ok-right-in-Or-clause-list : goal.returns-in_ok-right-in-Or-clause-list
returns-in_ok-right-in-Or-clause-list t c =
    let is = or_parts c.args.formula.now c.get-in-Or.result.now c.get-in-Or-2.result.now c.in-Or.left c.in-Or.right c.in-Or.is c.get-in-Or.ensures c.get-in-Or-2.ensures in
    on_ok_weaker c.or_node.result (two_list or_clauses c.args.formula.now c.get-in-Or.result.now c.get-in-Or-2.result.now c.args.atoms.now c.args.clauses.now is c.define_nodes-in-Or.new.clauses c.in_ok-left-in-Or.ensures.list c.in_ok-left-in-Or.ensures.vars c.define_nodes-in-Or-2.new.clauses c.in_ok-left-in-Or.left c.in_ok-right-in-Or.right c.in_ok-right-in-Or.ensures.list c.in_ok-right-in-Or.ensures.vars c.in_ok-left-in-Or.ensures.root c.in_ok-right-in-Or.ensures.root c.or_node.new.clauses) c.or_node.ensures.list

pub returns-in_ok-right-in-Or-clause-err : goal.returns-in_ok-right-in-Or-clause-err
returns-in_ok-right-in-Or-clause-err t c =
    let is = or_parts c.args.formula.now c.get-in-Or.result.now c.get-in-Or-2.result.now c.in-Or.left c.in-Or.right c.in-Or.is c.get-in-Or.ensures c.get-in-Or-2.ensures in
    on_err_weaker c.or_node.result (two_grew or_clauses c.args.formula.now c.get-in-Or.result.now c.get-in-Or-2.result.now c.args.atoms.now c.args.clauses.now is c.define_nodes-in-Or.new.clauses c.in_ok-left-in-Or.ensures.list c.in_ok-left-in-Or.ensures.vars c.define_nodes-in-Or-2.new.clauses c.in_ok-left-in-Or.left c.in_ok-right-in-Or.right c.in_ok-right-in-Or.ensures.list c.in_ok-right-in-Or.ensures.vars c.in_ok-left-in-Or.ensures.root c.in_ok-right-in-Or.ensures.root c.or_node.new.clauses) c.or_node.ensures.err

pub returns-in_err-left-in-Implies-clause-err : goal.returns-in_err-left-in-Implies-clause-err
returns-in_err-left-in-Implies-clause-err t c =
    let is = implies_parts c.args.formula.now c.get-in-Implies.result.now c.in-Implies.right c.in-Implies.left c.in-Implies.right c.in-Implies.is c.get-in-Implies.ensures refl in
    on_err c.from_residual-in_err-left-in-Implies.result (left_grew implies_clauses c.args.formula.now c.get-in-Implies.result.now c.in-Implies.right c.args.atoms.now c.args.clauses.now is c.define_nodes-in-Implies.new.clauses c.in_err-left-in-Implies.ensures.err)

pub define_nodes-requires-in-Implies : goal.define_nodes-requires-in-Implies
define_nodes-requires-in-Implies t c =
    let is = implies_parts c.args.formula.now c.get-in-Implies.result.now c.in-Implies.right c.in-Implies.left c.in-Implies.right c.in-Implies.is c.get-in-Implies.ensures refl in
    (omega (arith, is.nodes, c.decreases), (omega (arith, is.nodes, c.requires.room), (omega (arith, is.width, c.requires.known), c.requires.in_range)))

pub define_nodes-requires-in-Implies-2 : goal.define_nodes-requires-in-Implies-2
define_nodes-requires-in-Implies-2 t c =
    let is = implies_parts c.args.formula.now c.get-in-Implies.result.now c.get-in-Implies-2.result.now c.in-Implies.left c.in-Implies.right c.in-Implies.is c.get-in-Implies.ensures c.get-in-Implies-2.ensures in
    let room = right_room implies_clauses c.args.formula.now c.get-in-Implies.result.now c.get-in-Implies-2.result.now c.args.atoms.now c.args.clauses.now is c.define_nodes-in-Implies.new.clauses c.in_ok-left-in-Implies.ensures.list c.in_ok-left-in-Implies.ensures.vars c.requires.room in
    let known = right_known implies_clauses c.args.formula.now c.get-in-Implies.result.now c.get-in-Implies-2.result.now c.args.atoms.now c.args.clauses.now is c.define_nodes-in-Implies.new.clauses c.in_ok-left-in-Implies.ensures.list c.in_ok-left-in-Implies.ensures.vars c.requires.known in
    let in_range = right_range implies_clauses c.args.formula.now c.get-in-Implies.result.now c.get-in-Implies-2.result.now c.args.atoms.now c.args.clauses.now is c.define_nodes-in-Implies.new.clauses c.in_ok-left-in-Implies.ensures.list c.in_ok-left-in-Implies.ensures.vars c.requires.in_range in
    (omega (arith, is.nodes, c.decreases), (room, (known, in_range)))

pub returns-in_err-right-in-Implies-clause-err : goal.returns-in_err-right-in-Implies-clause-err
returns-in_err-right-in-Implies-clause-err t c =
    let is = implies_parts c.args.formula.now c.get-in-Implies.result.now c.get-in-Implies-2.result.now c.in-Implies.left c.in-Implies.right c.in-Implies.is c.get-in-Implies.ensures c.get-in-Implies-2.ensures in
    on_err c.from_residual-in_err-right-in-Implies.result (right_grew implies_clauses c.args.formula.now c.get-in-Implies.result.now c.get-in-Implies-2.result.now c.args.atoms.now c.args.clauses.now is c.define_nodes-in-Implies.new.clauses c.in_ok-left-in-Implies.ensures.list c.in_ok-left-in-Implies.ensures.vars c.define_nodes-in-Implies-2.new.clauses c.in_err-right-in-Implies.ensures.err)

pub implies_node-requires-clause-room : goal.implies_node-requires-clause-room
implies_node-requires-clause-room t c =
    let is = implies_parts c.args.formula.now c.get-in-Implies.result.now c.get-in-Implies-2.result.now c.in-Implies.left c.in-Implies.right c.in-Implies.is c.get-in-Implies.ensures c.get-in-Implies-2.ensures in
    node_room implies_clauses c.args.formula.now c.get-in-Implies.result.now c.get-in-Implies-2.result.now c.args.atoms.now c.args.clauses.now is c.define_nodes-in-Implies.new.clauses c.in_ok-left-in-Implies.ensures.list c.in_ok-left-in-Implies.ensures.vars c.define_nodes-in-Implies-2.new.clauses c.in_ok-left-in-Implies.left c.in_ok-right-in-Implies.right c.in_ok-right-in-Implies.ensures.list c.in_ok-right-in-Implies.ensures.vars c.in_ok-left-in-Implies.ensures.root c.in_ok-right-in-Implies.ensures.root c.requires.room

pub implies_node-requires-clause-left : goal.implies_node-requires-clause-left
implies_node-requires-clause-left t c =
    let is = implies_parts c.args.formula.now c.get-in-Implies.result.now c.get-in-Implies-2.result.now c.in-Implies.left c.in-Implies.right c.in-Implies.is c.get-in-Implies.ensures c.get-in-Implies-2.ensures in
    left_within implies_clauses c.args.formula.now c.get-in-Implies.result.now c.get-in-Implies-2.result.now c.args.atoms.now c.args.clauses.now is c.define_nodes-in-Implies.new.clauses c.in_ok-left-in-Implies.ensures.list c.in_ok-left-in-Implies.ensures.vars c.define_nodes-in-Implies-2.new.clauses c.in_ok-left-in-Implies.left c.in_ok-right-in-Implies.right c.in_ok-right-in-Implies.ensures.list c.in_ok-right-in-Implies.ensures.vars c.in_ok-left-in-Implies.ensures.root c.in_ok-right-in-Implies.ensures.root

pub implies_node-requires-clause-right : goal.implies_node-requires-clause-right
implies_node-requires-clause-right t c =
    let is = implies_parts c.args.formula.now c.get-in-Implies.result.now c.get-in-Implies-2.result.now c.in-Implies.left c.in-Implies.right c.in-Implies.is c.get-in-Implies.ensures c.get-in-Implies-2.ensures in
    right_within implies_clauses c.args.formula.now c.get-in-Implies.result.now c.get-in-Implies-2.result.now c.args.atoms.now c.args.clauses.now is c.define_nodes-in-Implies.new.clauses c.in_ok-left-in-Implies.ensures.list c.in_ok-left-in-Implies.ensures.vars c.define_nodes-in-Implies-2.new.clauses c.in_ok-left-in-Implies.left c.in_ok-right-in-Implies.right c.in_ok-right-in-Implies.ensures.list c.in_ok-right-in-Implies.ensures.vars c.in_ok-left-in-Implies.ensures.root c.in_ok-right-in-Implies.ensures.root

pub returns-in_ok-right-in-Implies-clause-list : goal.returns-in_ok-right-in-Implies-clause-list
returns-in_ok-right-in-Implies-clause-list t c =
    let is = implies_parts c.args.formula.now c.get-in-Implies.result.now c.get-in-Implies-2.result.now c.in-Implies.left c.in-Implies.right c.in-Implies.is c.get-in-Implies.ensures c.get-in-Implies-2.ensures in
    on_ok_weaker c.implies_node.result (two_list implies_clauses c.args.formula.now c.get-in-Implies.result.now c.get-in-Implies-2.result.now c.args.atoms.now c.args.clauses.now is c.define_nodes-in-Implies.new.clauses c.in_ok-left-in-Implies.ensures.list c.in_ok-left-in-Implies.ensures.vars c.define_nodes-in-Implies-2.new.clauses c.in_ok-left-in-Implies.left c.in_ok-right-in-Implies.right c.in_ok-right-in-Implies.ensures.list c.in_ok-right-in-Implies.ensures.vars c.in_ok-left-in-Implies.ensures.root c.in_ok-right-in-Implies.ensures.root c.implies_node.new.clauses) c.implies_node.ensures.list

pub returns-in_ok-right-in-Implies-clause-err : goal.returns-in_ok-right-in-Implies-clause-err
returns-in_ok-right-in-Implies-clause-err t c =
    let is = implies_parts c.args.formula.now c.get-in-Implies.result.now c.get-in-Implies-2.result.now c.in-Implies.left c.in-Implies.right c.in-Implies.is c.get-in-Implies.ensures c.get-in-Implies-2.ensures in
    on_err_weaker c.implies_node.result (two_grew implies_clauses c.args.formula.now c.get-in-Implies.result.now c.get-in-Implies-2.result.now c.args.atoms.now c.args.clauses.now is c.define_nodes-in-Implies.new.clauses c.in_ok-left-in-Implies.ensures.list c.in_ok-left-in-Implies.ensures.vars c.define_nodes-in-Implies-2.new.clauses c.in_ok-left-in-Implies.left c.in_ok-right-in-Implies.right c.in_ok-right-in-Implies.ensures.list c.in_ok-right-in-Implies.ensures.vars c.in_ok-left-in-Implies.ensures.root c.in_ok-right-in-Implies.ensures.root c.implies_node.new.clauses) c.implies_node.ensures.err

pub returns-in_err-left-in-Iff-clause-err : goal.returns-in_err-left-in-Iff-clause-err
returns-in_err-left-in-Iff-clause-err t c =
    let is = iff_parts c.args.formula.now c.get-in-Iff.result.now c.in-Iff.right c.in-Iff.left c.in-Iff.right c.in-Iff.is c.get-in-Iff.ensures refl in
    on_err c.from_residual-in_err-left-in-Iff.result (left_grew iff_clauses c.args.formula.now c.get-in-Iff.result.now c.in-Iff.right c.args.atoms.now c.args.clauses.now is c.define_nodes-in-Iff.new.clauses c.in_err-left-in-Iff.ensures.err)

pub define_nodes-requires-in-Iff : goal.define_nodes-requires-in-Iff
define_nodes-requires-in-Iff t c =
    let is = iff_parts c.args.formula.now c.get-in-Iff.result.now c.in-Iff.right c.in-Iff.left c.in-Iff.right c.in-Iff.is c.get-in-Iff.ensures refl in
    (omega (arith, is.nodes, c.decreases), (omega (arith, is.nodes, c.requires.room), (omega (arith, is.width, c.requires.known), c.requires.in_range)))

pub define_nodes-requires-in-Iff-2 : goal.define_nodes-requires-in-Iff-2
define_nodes-requires-in-Iff-2 t c =
    let is = iff_parts c.args.formula.now c.get-in-Iff.result.now c.get-in-Iff-2.result.now c.in-Iff.left c.in-Iff.right c.in-Iff.is c.get-in-Iff.ensures c.get-in-Iff-2.ensures in
    let room = right_room iff_clauses c.args.formula.now c.get-in-Iff.result.now c.get-in-Iff-2.result.now c.args.atoms.now c.args.clauses.now is c.define_nodes-in-Iff.new.clauses c.in_ok-left-in-Iff.ensures.list c.in_ok-left-in-Iff.ensures.vars c.requires.room in
    let known = right_known iff_clauses c.args.formula.now c.get-in-Iff.result.now c.get-in-Iff-2.result.now c.args.atoms.now c.args.clauses.now is c.define_nodes-in-Iff.new.clauses c.in_ok-left-in-Iff.ensures.list c.in_ok-left-in-Iff.ensures.vars c.requires.known in
    let in_range = right_range iff_clauses c.args.formula.now c.get-in-Iff.result.now c.get-in-Iff-2.result.now c.args.atoms.now c.args.clauses.now is c.define_nodes-in-Iff.new.clauses c.in_ok-left-in-Iff.ensures.list c.in_ok-left-in-Iff.ensures.vars c.requires.in_range in
    (omega (arith, is.nodes, c.decreases), (room, (known, in_range)))

pub returns-in_err-right-in-Iff-clause-err : goal.returns-in_err-right-in-Iff-clause-err
returns-in_err-right-in-Iff-clause-err t c =
    let is = iff_parts c.args.formula.now c.get-in-Iff.result.now c.get-in-Iff-2.result.now c.in-Iff.left c.in-Iff.right c.in-Iff.is c.get-in-Iff.ensures c.get-in-Iff-2.ensures in
    on_err c.from_residual-in_err-right-in-Iff.result (right_grew iff_clauses c.args.formula.now c.get-in-Iff.result.now c.get-in-Iff-2.result.now c.args.atoms.now c.args.clauses.now is c.define_nodes-in-Iff.new.clauses c.in_ok-left-in-Iff.ensures.list c.in_ok-left-in-Iff.ensures.vars c.define_nodes-in-Iff-2.new.clauses c.in_err-right-in-Iff.ensures.err)

pub iff_node-requires-clause-room : goal.iff_node-requires-clause-room
iff_node-requires-clause-room t c =
    let is = iff_parts c.args.formula.now c.get-in-Iff.result.now c.get-in-Iff-2.result.now c.in-Iff.left c.in-Iff.right c.in-Iff.is c.get-in-Iff.ensures c.get-in-Iff-2.ensures in
    node_room iff_clauses c.args.formula.now c.get-in-Iff.result.now c.get-in-Iff-2.result.now c.args.atoms.now c.args.clauses.now is c.define_nodes-in-Iff.new.clauses c.in_ok-left-in-Iff.ensures.list c.in_ok-left-in-Iff.ensures.vars c.define_nodes-in-Iff-2.new.clauses c.in_ok-left-in-Iff.left c.in_ok-right-in-Iff.right c.in_ok-right-in-Iff.ensures.list c.in_ok-right-in-Iff.ensures.vars c.in_ok-left-in-Iff.ensures.root c.in_ok-right-in-Iff.ensures.root c.requires.room

pub iff_node-requires-clause-left : goal.iff_node-requires-clause-left
iff_node-requires-clause-left t c =
    let is = iff_parts c.args.formula.now c.get-in-Iff.result.now c.get-in-Iff-2.result.now c.in-Iff.left c.in-Iff.right c.in-Iff.is c.get-in-Iff.ensures c.get-in-Iff-2.ensures in
    left_within iff_clauses c.args.formula.now c.get-in-Iff.result.now c.get-in-Iff-2.result.now c.args.atoms.now c.args.clauses.now is c.define_nodes-in-Iff.new.clauses c.in_ok-left-in-Iff.ensures.list c.in_ok-left-in-Iff.ensures.vars c.define_nodes-in-Iff-2.new.clauses c.in_ok-left-in-Iff.left c.in_ok-right-in-Iff.right c.in_ok-right-in-Iff.ensures.list c.in_ok-right-in-Iff.ensures.vars c.in_ok-left-in-Iff.ensures.root c.in_ok-right-in-Iff.ensures.root

pub iff_node-requires-clause-right : goal.iff_node-requires-clause-right
iff_node-requires-clause-right t c =
    let is = iff_parts c.args.formula.now c.get-in-Iff.result.now c.get-in-Iff-2.result.now c.in-Iff.left c.in-Iff.right c.in-Iff.is c.get-in-Iff.ensures c.get-in-Iff-2.ensures in
    right_within iff_clauses c.args.formula.now c.get-in-Iff.result.now c.get-in-Iff-2.result.now c.args.atoms.now c.args.clauses.now is c.define_nodes-in-Iff.new.clauses c.in_ok-left-in-Iff.ensures.list c.in_ok-left-in-Iff.ensures.vars c.define_nodes-in-Iff-2.new.clauses c.in_ok-left-in-Iff.left c.in_ok-right-in-Iff.right c.in_ok-right-in-Iff.ensures.list c.in_ok-right-in-Iff.ensures.vars c.in_ok-left-in-Iff.ensures.root c.in_ok-right-in-Iff.ensures.root

pub returns-in_ok-right-in-Iff-clause-list : goal.returns-in_ok-right-in-Iff-clause-list
returns-in_ok-right-in-Iff-clause-list t c =
    let is = iff_parts c.args.formula.now c.get-in-Iff.result.now c.get-in-Iff-2.result.now c.in-Iff.left c.in-Iff.right c.in-Iff.is c.get-in-Iff.ensures c.get-in-Iff-2.ensures in
    on_ok_weaker c.iff_node.result (two_list iff_clauses c.args.formula.now c.get-in-Iff.result.now c.get-in-Iff-2.result.now c.args.atoms.now c.args.clauses.now is c.define_nodes-in-Iff.new.clauses c.in_ok-left-in-Iff.ensures.list c.in_ok-left-in-Iff.ensures.vars c.define_nodes-in-Iff-2.new.clauses c.in_ok-left-in-Iff.left c.in_ok-right-in-Iff.right c.in_ok-right-in-Iff.ensures.list c.in_ok-right-in-Iff.ensures.vars c.in_ok-left-in-Iff.ensures.root c.in_ok-right-in-Iff.ensures.root c.iff_node.new.clauses) c.iff_node.ensures.list

pub returns-in_ok-right-in-Iff-clause-err : goal.returns-in_ok-right-in-Iff-clause-err
returns-in_ok-right-in-Iff-clause-err t c =
    let is = iff_parts c.args.formula.now c.get-in-Iff.result.now c.get-in-Iff-2.result.now c.in-Iff.left c.in-Iff.right c.in-Iff.is c.get-in-Iff.ensures c.get-in-Iff-2.ensures in
    on_err_weaker c.iff_node.result (two_grew iff_clauses c.args.formula.now c.get-in-Iff.result.now c.get-in-Iff-2.result.now c.args.atoms.now c.args.clauses.now is c.define_nodes-in-Iff.new.clauses c.in_ok-left-in-Iff.ensures.list c.in_ok-left-in-Iff.ensures.vars c.define_nodes-in-Iff-2.new.clauses c.in_ok-left-in-Iff.left c.in_ok-right-in-Iff.right c.in_ok-right-in-Iff.ensures.list c.in_ok-right-in-Iff.ensures.vars c.in_ok-left-in-Iff.ensures.root c.in_ok-right-in-Iff.ensures.root c.iff_node.new.clauses) c.iff_node.ensures.err

pub define_nodes-requires : goal.define_nodes-requires
define_nodes-requires t c =
    let is = not_parts c.args.formula.now c.get.result.now c.in-Not.part c.in-Not.is c.get.ensures in
    (omega (arith, is.nodes, c.decreases), (omega (arith, is.nodes, c.requires.room), (omega (arith, is.width, c.requires.known), c.requires.in_range)))

pub returns-in_err-part-in-Not-clause-err : goal.returns-in_err-part-in-Not-clause-err
returns-in_err-part-in-Not-clause-err t c =
    let is = not_parts c.args.formula.now c.get.result.now c.in-Not.part c.in-Not.is c.get.ensures in
    on_err c.from_residual.result (part_grew not_clauses c.args.formula.now c.get.result.now c.args.atoms.now c.args.clauses.now is c.define_nodes.new.clauses c.in_err-part-in-Not.ensures.err)

pub not_node-requires-clause-room : goal.not_node-requires-clause-room
not_node-requires-clause-room t c =
    let is = not_parts c.args.formula.now c.get.result.now c.in-Not.part c.in-Not.is c.get.ensures in
    omega (arith, is.nodes, c.requires.room, c.in_ok-part-in-Not.ensures.vars, root_is c.get.result.now c.args.atoms.now c.args.clauses.now.vars)

pub not_node-requires-clause-part : goal.not_node-requires-clause-part
not_node-requires-clause-part t c =
    part_within c.args.atoms.now c.get.result.now c.args.clauses.now.vars c.define_nodes.new.clauses.vars c.in_ok-part-in-Not.part c.in_ok-part-in-Not.ensures.root (omega (arith, c.in_ok-part-in-Not.ensures.vars))

pub returns-in_ok-part-in-Not-clause-list : goal.returns-in_ok-part-in-Not-clause-list
returns-in_ok-part-in-Not-clause-list t c =
    let is = not_parts c.args.formula.now c.get.result.now c.in-Not.part c.in-Not.is c.get.ensures in
    on_ok_weaker c.not_node.result (one_list not_clauses c.args.formula.now c.get.result.now c.args.atoms.now c.args.clauses.now is c.define_nodes.new.clauses c.in_ok-part-in-Not.part c.in_ok-part-in-Not.ensures.list c.in_ok-part-in-Not.ensures.vars c.in_ok-part-in-Not.ensures.root c.not_node.new.clauses) c.not_node.ensures.list

pub returns-in_ok-part-in-Not-clause-err : goal.returns-in_ok-part-in-Not-clause-err
returns-in_ok-part-in-Not-clause-err t c =
    let is = not_parts c.args.formula.now c.get.result.now c.in-Not.part c.in-Not.is c.get.ensures in
    on_err_weaker c.not_node.result (one_grew not_clauses c.args.formula.now c.get.result.now c.args.atoms.now c.args.clauses.now is c.define_nodes.new.clauses c.in_ok-part-in-Not.part c.in_ok-part-in-Not.ensures.list c.in_ok-part-in-Not.ensures.vars c.in_ok-part-in-Not.ensures.root c.not_node.new.clauses) c.not_node.ensures.err

pub returns-in-Atom-clause-list : goal.returns-in-Atom-clause-list
returns-in-Atom-clause-list t c =
    on_ok_weaker c.atom_node.result (atom_list c.args.atoms.now c.args.formula.now c.in-Atom.k _ c.args.clauses.now c.atom_node.new.clauses c.in-Atom.is c.requires.known) c.atom_node.ensures.list

pub returns-in-Atom-clause-err : goal.returns-in-Atom-clause-err
returns-in-Atom-clause-err t c =
    on_err_weaker c.atom_node.result (atom_grew c.args.atoms.now c.args.formula.now c.in-Atom.k _ c.args.clauses.now c.atom_node.new.clauses c.in-Atom.is c.requires.known) c.atom_node.ensures.err
