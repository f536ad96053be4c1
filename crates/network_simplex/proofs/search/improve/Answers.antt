use Rattle.pricing.proofs.Laws.Entering.{edge-fits, falling}
use Rattle.ratio_test.proofs.Laws.Exchange.{can_leave, can_pivot}
use Rattle.network_simplex.proofs.search.improve.Goals as goal

-- `improve` meets its contract: edge e enters from the end with the higher potential, and what leaves makes a pivot. Assumes nothing.
pub downhill_edge-edge-requires : goal.downhill_edge-edge-requires
downhill_edge-edge-requires c = edge-fits c.requires.0.accepted c.requires.1

pub exchange-x-requires : goal.exchange-x-requires
exchange-x-requires c =
    can_leave c.requires.0.basis (falling c.requires.0.accepted c.requires.1 c.requires.2 c.downhill_edge-edge.ensures)

pub pivot-requires : goal.pivot-requires
pivot-requires c =
    let falls = falling c.requires.0.accepted c.requires.1 c.requires.2 c.downhill_edge-edge.ensures in
    record {
      lower = c.args.g.now.a.now;
      upper = c.args.g.now.b.now;
      lengths = c.args.g.now.lengths.now;
      m = c.requires.0.m;
      v = c.requires.0.v;
      holds = (can_pivot c.requires.0.basis falls _ c.exchange-x.ensures.0 c.exchange-x.ensures.1.leaves, c.exchange-x.ensures.1.ancestor);
    }

pub returns : goal.returns
returns c = λ m v basis.
    let falls = falling c.requires.0.accepted c.requires.1 c.requires.2 c.downhill_edge-edge.ensures in
    c.pivot.ensures c.args.g.now.a.now c.args.g.now.b.now c.args.g.now.lengths.now m v
    (can_pivot basis falls _ c.exchange-x.ensures.0 c.exchange-x.ensures.1.leaves)
