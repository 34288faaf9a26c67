-- The answers to accepted texts tell their kinds apart.
use Rattle.std.proofs.Common.{◌≡◌, ℕ, List, ap, refl, arith}
use Rattle.std.specs.Prelude.{slice_index}
use Rattle.report_lines.specs.declared.kinds.Kind.{Kind}
use Rattle.report_lines.specs.declared.kinds.Kind.TheVariants.{Merged, Inconsistent, Spent}
use Rattle.merge_cli.specs.Check.{accepted_text}

-- the bytes at one place of the texts tell the kinds apart
tells : (u w : List ℕ) → u ≡ w → slice_index u 9 ≡ slice_index w 9
tells u w same = ap (λ (x : List ℕ). slice_index x 9) same

pub same_kind : (k l : Kind) → accepted_text k ≡ accepted_text l → k ≡ l
same_kind Merged Merged same = refl
same_kind Merged Inconsistent same = absurd (let at : 109 ≡ 105 = tells _ _ same in omega (arith, at))
same_kind Merged Spent same = absurd (let at : 109 ≡ 115 = tells _ _ same in omega (arith, at))
same_kind Inconsistent Merged same = absurd (let at : 105 ≡ 109 = tells _ _ same in omega (arith, at))
same_kind Inconsistent Inconsistent same = refl
same_kind Inconsistent Spent same = absurd (let at : 105 ≡ 115 = tells _ _ same in omega (arith, at))
same_kind Spent Merged same = absurd (let at : 115 ≡ 109 = tells _ _ same in omega (arith, at))
same_kind Spent Inconsistent same = absurd (let at : 115 ≡ 105 = tells _ _ same in omega (arith, at))
same_kind Spent Spent same = refl
