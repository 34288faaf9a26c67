use Rattle.std.proofs.Common.{refl}
use Rattle.report_words.proofs.Growth.{part_of_next, next_written, all_written, stopped}
use Rattle.report_text.specs.WritingItems.{proof_text}
use Rattle.report_text.proofs.writing.write_proofs.Goals as goal

pub returns-in_err-write_proof : goal.returns-in_err-write_proof
returns-in_err-write_proof c =
    stopped _ _ _ _ c.from_residual.ensures.0
    (part_of_next proof_text c.args.proofs.now c.loop-proof.proof-index _ _ _ _ _ c.loop-proof-test.true refl c.loop-proof.invariant c.in_err-write_proof.ensures)

pub loop-proof-preserved : goal.loop-proof-preserved
loop-proof-preserved c =
    next_written proof_text c.args.proofs.now c.loop-proof.proof-index _ _ _ _ _ c.loop-proof-test.true refl c.loop-proof.invariant c.in_ok-write_proof.ensures

pub returns : goal.returns
returns c = all_written proof_text c.args.proofs.now c.loop-proof.proof-index _ _ c.loop-proof-test.false c.loop-proof.invariant
