use native.Mathlib.Omega.{arith}
use Rattle.subtree_sums.proofs.Laws.Sums.{filled-subtotal}
use Rattle.first_basis.proofs.Laws.FirstBasis.{perturbed_fits}
use Rattle.first_basis.proofs.fill_subtrees.Goals as goal

-- `fill_subtrees` meets its contract. Assumes nothing.
pub subtree_tables-requires-clause-masses : goal.subtree_tables-requires-clause-masses
subtree_tables-requires-clause-masses c =
    let p = c.requires in (
      omega (arith, c.perturb.ensures.size, p.few),
      (
        omega (arith, c.perturb-2.ensures.size, p.few),
        (
          perturbed_fits c.args.mu.now c.perturb.ensures p.few (omega arith) (omega arith) p.mu_light,
          perturbed_fits c.args.nu.now c.perturb-2.ensures p.few (omega (arith, p.few)) (omega arith) p.nu_light,
        ),
      ),
    )

pub returns-clause-first : goal.returns-clause-first
returns-clause-first c = filled-subtotal _ c.perturb.ensures c.subtree_tables.ensures.first

pub returns-clause-second : goal.returns-clause-second
returns-clause-second c = filled-subtotal _ c.perturb-2.ensures c.subtree_tables.ensures.second
