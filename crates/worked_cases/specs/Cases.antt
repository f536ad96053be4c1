-- Cases A to H of document 01, two more of document 02, and each example of the table of refusals: one table, inputs beside figures.
use Rattle.std.specs.Prelude.{List, [], ◌∷◌, pos, negsuc}
use Rattle.graph.specs.Graph.{graph}
use Rattle.given_tree.specs.Given.{given}
use Rattle.worked_cases.specs.Figures.{Case, BestFigures, Bytes, silent, said}

-- A: a line; the plan is that of the listing
abbrev pub a : Case
a = record {
  patch = graph 4 (0 ∷ 1 ∷ 2 ∷ []) (1 ∷ 2 ∷ 3 ∷ []) (2 ∷ 3 ∷ 1 ∷ []);
  lent = given (5 ∷ 0 ∷ 1 ∷ 0 ∷ []) (0 ∷ 2 ∷ 1 ∷ 3 ∷ []) 3 (1 ∷ 2 ∷ 3 ∷ 3 ∷ []);
  refusal = 0;
  imbalances = said (pos 5 ∷ pos 3 ∷ pos 3 ∷ pos 0 ∷ []);
  potentials = said (pos 6 ∷ pos 4 ∷ pos 1 ∷ pos 0 ∷ []);
  cost = said 22;
  moved = said 2;
  entries = said (0 ∷ 2 ∷ 0 ∷ 3 ∷ 0 ∷ 0 ∷ 0 ∷ 0 ∷ 0 ∷ 0 ∷ 1 ∷ 0 ∷ 0 ∷ 0 ∷ 0 ∷ 0 ∷ []);
  best = silent;
  judged = silent;
}

-- B's best answer
abbrev pub certificate_b : BestFigures
certificate_b = record { parents = (0 ∷ 0 ∷ 1 ∷ 0 ∷ []); potentials = (pos 0 ∷ pos 0 ∷ pos 0 ∷ negsuc 0 ∷ []); cost = 4 }

-- B: a ring; the tree given is not the best
abbrev pub b : Case
b = record {
  patch = graph 4 (0 ∷ 0 ∷ 1 ∷ 2 ∷ []) (1 ∷ 3 ∷ 2 ∷ 3 ∷ []) (1 ∷ 1 ∷ 1 ∷ 1 ∷ []);
  lent = given (4 ∷ 0 ∷ 0 ∷ 0 ∷ []) (0 ∷ 0 ∷ 0 ∷ 4 ∷ []) 0 (0 ∷ 0 ∷ 1 ∷ 2 ∷ []);
  refusal = 0;
  imbalances = silent;
  potentials = silent;
  cost = said 12;
  moved = silent;
  entries = silent;
  best = said certificate_b;
  judged = said 0;
}

-- C: B's ring and tree, with equal paintings: nothing moves, and the potential is flat (document 02, W-202)
abbrev pub c : Case
c = record {
  patch = graph 4 (0 ∷ 0 ∷ 1 ∷ 2 ∷ []) (1 ∷ 3 ∷ 2 ∷ 3 ∷ []) (1 ∷ 1 ∷ 1 ∷ 1 ∷ []);
  lent = given (1 ∷ 1 ∷ 1 ∷ 1 ∷ []) (1 ∷ 1 ∷ 1 ∷ 1 ∷ []) 0 (0 ∷ 0 ∷ 1 ∷ 2 ∷ []);
  refusal = 0;
  imbalances = silent;
  potentials = said (pos 0 ∷ pos 0 ∷ pos 0 ∷ pos 0 ∷ []);
  cost = said 0;
  moved = silent;
  entries = silent;
  best = said (record { parents = (0 ∷ 0 ∷ 1 ∷ 2 ∷ []); potentials = (pos 0 ∷ pos 0 ∷ pos 0 ∷ pos 0 ∷ []); cost = 0 });
  judged = said 1;
}

-- D: an edge that is longer than the way round
abbrev pub d : Case
d = record {
  patch = graph 3 (0 ∷ 0 ∷ 1 ∷ []) (1 ∷ 2 ∷ 2 ∷ []) (5 ∷ 1 ∷ 1 ∷ []);
  lent = given (3 ∷ 0 ∷ 0 ∷ []) (0 ∷ 3 ∷ 0 ∷ []) 0 (0 ∷ 2 ∷ 0 ∷ []);
  refusal = 0;
  imbalances = silent;
  potentials = silent;
  cost = silent;
  moved = silent;
  entries = silent;
  best = said (record { parents = (0 ∷ 2 ∷ 0 ∷ []); potentials = (pos 0 ∷ negsuc 1 ∷ negsuc 0 ∷ []); cost = 6 });
  judged = silent;
}

-- E: one vertex
abbrev pub e : Case
e = record {
  patch = graph 1 [] [] [];
  lent = given (7 ∷ []) (7 ∷ []) 0 (0 ∷ []);
  refusal = 0;
  imbalances = silent;
  potentials = silent;
  cost = said 0;
  moved = silent;
  entries = said (7 ∷ []);
  best = silent;
  judged = silent;
}

-- F: the longest edge and the largest total
abbrev pub f : Case
f = record {
  patch = graph 2 (0 ∷ []) (1 ∷ []) (65535 ∷ []);
  lent = given (16777216 ∷ 0 ∷ []) (0 ∷ 16777216 ∷ []) 0 (0 ∷ 0 ∷ []);
  refusal = 0;
  imbalances = silent;
  potentials = silent;
  cost = said 1099494850560;
  moved = silent;
  entries = silent;
  best = said (record { parents = (0 ∷ 0 ∷ []); potentials = (pos 0 ∷ negsuc 65534 ∷ []); cost = 1099494850560 });
  judged = silent;
}

-- F: one grain more
abbrev pub f' : Case
f' = record {
  patch = graph 2 (0 ∷ []) (1 ∷ []) (65535 ∷ []);
  lent = given (16777217 ∷ 0 ∷ []) (0 ∷ 16777217 ∷ []) 0 (0 ∷ 0 ∷ []);
  refusal = 6;
  imbalances = silent;
  potentials = silent;
  cost = silent;
  moved = silent;
  entries = silent;
  best = silent;
  judged = silent;
}

-- G: document 000, Table 1, in units of 0.05
abbrev pub g : Case
g = record {
  patch = graph 6 (0 ∷ 1 ∷ 2 ∷ 3 ∷ 4 ∷ []) (1 ∷ 2 ∷ 3 ∷ 4 ∷ 5 ∷ []) (1 ∷ 1 ∷ 1 ∷ 1 ∷ 1 ∷ []);
  lent = given (1 ∷ 1 ∷ 0 ∷ 0 ∷ 0 ∷ 6 ∷ []) (0 ∷ 0 ∷ 4 ∷ 2 ∷ 2 ∷ 0 ∷ []) 5 (1 ∷ 2 ∷ 3 ∷ 4 ∷ 5 ∷ 5 ∷ []);
  refusal = 0;
  imbalances = said (pos 1 ∷ pos 2 ∷ negsuc 1 ∷ negsuc 3 ∷ negsuc 5 ∷ pos 0 ∷ []);
  potentials = said (negsuc 0 ∷ negsuc 1 ∷ negsuc 2 ∷ negsuc 1 ∷ negsuc 0 ∷ pos 0 ∷ []);
  cost = said 15;
  moved = said 5;
  entries = silent;
  best = silent;
  judged = silent;
}

-- H: G's paintings under root 0
abbrev pub h : Case
h = record {
  patch = graph 6 (0 ∷ 1 ∷ 2 ∷ 3 ∷ 4 ∷ []) (1 ∷ 2 ∷ 3 ∷ 4 ∷ 5 ∷ []) (1 ∷ 1 ∷ 1 ∷ 1 ∷ 1 ∷ []);
  lent = given (1 ∷ 1 ∷ 0 ∷ 0 ∷ 0 ∷ 6 ∷ []) (0 ∷ 0 ∷ 4 ∷ 2 ∷ 2 ∷ 0 ∷ []) 0 (0 ∷ 0 ∷ 1 ∷ 2 ∷ 3 ∷ 4 ∷ []);
  refusal = 0;
  imbalances = said (pos 0 ∷ negsuc 0 ∷ negsuc 1 ∷ pos 2 ∷ pos 4 ∷ pos 6 ∷ []);
  potentials = silent;
  cost = said 15;
  moved = silent;
  entries = silent;
  best = silent;
  judged = silent;
}

-- a best tree whose own potential falls by 2 along edge (0, 2) of length 1: a tree is not judged by it
abbrev pub own_potential : Case
own_potential = record {
  patch = graph 3 (0 ∷ 0 ∷ 1 ∷ []) (1 ∷ 2 ∷ 2 ∷ []) (2 ∷ 1 ∷ 3 ∷ []);
  lent = given (1 ∷ 0 ∷ 0 ∷ []) (0 ∷ 1 ∷ 0 ∷ []) 0 (0 ∷ 0 ∷ 1 ∷ []);
  refusal = 0;
  imbalances = said (pos 0 ∷ negsuc 0 ∷ pos 0 ∷ []);
  potentials = said (pos 0 ∷ negsuc 1 ∷ negsuc 1 ∷ []);
  cost = said 2;
  moved = said 1;
  entries = said (0 ∷ 1 ∷ 0 ∷ 0 ∷ 0 ∷ 0 ∷ 0 ∷ 0 ∷ 0 ∷ []);
  best = said (record { parents = (0 ∷ 0 ∷ 1 ∷ []); potentials = (pos 0 ∷ negsuc 1 ∷ negsuc 0 ∷ []); cost = 2 });
  judged = said 1;
}

-- a welded seam (document 02, W-206): a ring of edges of length 0, and an edge that leads out of it
abbrev pub seam : Case
seam = record {
  patch = graph 4 (0 ∷ 0 ∷ 1 ∷ 2 ∷ []) (1 ∷ 2 ∷ 2 ∷ 3 ∷ []) (0 ∷ 0 ∷ 0 ∷ 5 ∷ []);
  lent = given (3 ∷ 0 ∷ 0 ∷ 0 ∷ []) (0 ∷ 1 ∷ 0 ∷ 2 ∷ []) 0 (0 ∷ 0 ∷ 1 ∷ 2 ∷ []);
  refusal = 0;
  imbalances = said (pos 0 ∷ negsuc 2 ∷ negsuc 1 ∷ negsuc 1 ∷ []);
  potentials = said (pos 0 ∷ pos 0 ∷ pos 0 ∷ negsuc 4 ∷ []);
  cost = said 10;
  moved = said 2;
  entries = said (0 ∷ 1 ∷ 0 ∷ 2 ∷ 0 ∷ 0 ∷ 0 ∷ 0 ∷ 0 ∷ 0 ∷ 0 ∷ 0 ∷ 0 ∷ 0 ∷ 0 ∷ 0 ∷ []);
  best = said (record { parents = (0 ∷ 0 ∷ 1 ∷ 2 ∷ []); potentials = (pos 0 ∷ pos 0 ∷ pos 0 ∷ negsuc 4 ∷ []); cost = 10 });
  judged = said 1;
}

-- 1: n = 0
abbrev pub n_0 : Case
n_0 = record {
  patch = graph 0 [] [] [];
  lent = given [] [] 0 [];
  refusal = 1;
  imbalances = silent;
  potentials = silent;
  cost = silent;
  moved = silent;
  entries = silent;
  best = silent;
  judged = silent;
}

-- 2: n = 2, mu of 3 numbers
abbrev pub mu_3 : Case
mu_3 = record {
  patch = graph 2 (0 ∷ []) (1 ∷ []) (1 ∷ []);
  lent = given (1 ∷ 1 ∷ 1 ∷ []) (1 ∷ 1 ∷ []) 0 (0 ∷ 0 ∷ []);
  refusal = 2;
  imbalances = silent;
  potentials = silent;
  cost = silent;
  moved = silent;
  entries = silent;
  best = silent;
  judged = silent;
}

-- 3: n = 2, edge (1, 0)
abbrev pub edge_10 : Case
edge_10 = record {
  patch = graph 2 (1 ∷ []) (0 ∷ []) (1 ∷ []);
  lent = given (1 ∷ 0 ∷ []) (0 ∷ 1 ∷ []) 0 (0 ∷ 0 ∷ []);
  refusal = 3;
  imbalances = silent;
  potentials = silent;
  cost = silent;
  moved = silent;
  entries = silent;
  best = silent;
  judged = silent;
}

-- 4: n = 2, (0, 1) length 65,536 (document 02, W-206)
abbrev pub length_65536 : Case
length_65536 = record {
  patch = graph 2 (0 ∷ []) (1 ∷ []) (65536 ∷ []);
  lent = given (1 ∷ 0 ∷ []) (0 ∷ 1 ∷ []) 0 (0 ∷ 0 ∷ []);
  refusal = 4;
  imbalances = silent;
  potentials = silent;
  cost = silent;
  moved = silent;
  entries = silent;
  best = silent;
  judged = silent;
}

-- 5: n = 3, only (0, 1)
abbrev pub lonely : Case
lonely = record {
  patch = graph 3 (0 ∷ []) (1 ∷ []) (1 ∷ []);
  lent = given (1 ∷ 0 ∷ 0 ∷ []) (0 ∷ 1 ∷ 0 ∷ []) 0 (0 ∷ 0 ∷ 0 ∷ []);
  refusal = 5;
  imbalances = silent;
  potentials = silent;
  cost = silent;
  moved = silent;
  entries = silent;
  best = silent;
  judged = silent;
}

-- 6: n = 1, 16,777,217 twice
abbrev pub heavy : Case
heavy = record {
  patch = graph 1 [] [] [];
  lent = given (16777217 ∷ []) (16777217 ∷ []) 0 (0 ∷ []);
  refusal = 6;
  imbalances = silent;
  potentials = silent;
  cost = silent;
  moved = silent;
  entries = silent;
  best = silent;
  judged = silent;
}

-- 7: n = 1, 3 and 4
abbrev pub unequal : Case
unequal = record {
  patch = graph 1 [] [] [];
  lent = given (3 ∷ []) (4 ∷ []) 0 (0 ∷ []);
  refusal = 7;
  imbalances = silent;
  potentials = silent;
  cost = silent;
  moved = silent;
  entries = silent;
  best = silent;
  judged = silent;
}

-- 8: n = 2, root 0, parents 1 0
abbrev pub other_root : Case
other_root = record {
  patch = graph 2 (0 ∷ []) (1 ∷ []) (1 ∷ []);
  lent = given (1 ∷ 0 ∷ []) (0 ∷ 1 ∷ []) 0 (1 ∷ 0 ∷ []);
  refusal = 8;
  imbalances = silent;
  potentials = silent;
  cost = silent;
  moved = silent;
  entries = silent;
  best = silent;
  judged = silent;
}

-- 9: (0, 1), (1, 2); root 0, parents 0 0 0
abbrev pub no_edge : Case
no_edge = record {
  patch = graph 3 (0 ∷ 1 ∷ []) (1 ∷ 2 ∷ []) (1 ∷ 1 ∷ []);
  lent = given (1 ∷ 0 ∷ 0 ∷ []) (0 ∷ 1 ∷ 0 ∷ []) 0 (0 ∷ 0 ∷ 0 ∷ []);
  refusal = 9;
  imbalances = silent;
  potentials = silent;
  cost = silent;
  moved = silent;
  entries = silent;
  best = silent;
  judged = silent;
}

-- 10: the same edges; root 0, parents 0 2 1
abbrev pub no_chain : Case
no_chain = record {
  patch = graph 3 (0 ∷ 1 ∷ []) (1 ∷ 2 ∷ []) (1 ∷ 1 ∷ []);
  lent = given (1 ∷ 0 ∷ 0 ∷ []) (0 ∷ 1 ∷ 0 ∷ []) 0 (0 ∷ 2 ∷ 1 ∷ []);
  refusal = 10;
  imbalances = silent;
  potentials = silent;
  cost = silent;
  moved = silent;
  entries = silent;
  best = silent;
  judged = silent;
}

-- A's image, and its listing "in full"; the record has A's figures in their places
abbrev pub image_a : Bytes
image_a = record {
  image = (4 ∷ 0 ∷ 3 ∷ 0 ∷ 36 ∷ 0 ∷ 0 ∷ 0 ∷ 12 ∷ 0 ∷ 0 ∷ 0 ∷ 48 ∷ 0 ∷ 0 ∷ 0 ∷ 16 ∷ 0 ∷ 0 ∷ 0 ∷ 64 ∷ 0 ∷ 0 ∷ 0 ∷ 16 ∷ 0 ∷ 0 ∷ 0 ∷ 80 ∷ 0 ∷ 0 ∷ 0 ∷ 5 ∷ 0 ∷ 0 ∷ 0 ∷ 0 ∷ 1 ∷ 2 ∷ 0 ∷ 1 ∷ 2 ∷ 3 ∷ 0 ∷ 2 ∷ 3 ∷ 1 ∷ 0 ∷ 5 ∷ 0 ∷ 0 ∷ 0 ∷ 0 ∷ 0 ∷ 0 ∷ 0 ∷ 1 ∷ 0 ∷ 0 ∷ 0 ∷ 0 ∷ 0 ∷ 0 ∷ 0 ∷ 0 ∷ 0 ∷ 0 ∷ 0 ∷ 2 ∷ 0 ∷ 0 ∷ 0 ∷ 1 ∷ 0 ∷ 0 ∷ 0 ∷ 3 ∷ 0 ∷ 0 ∷ 0 ∷ 3 ∷ 1 ∷ 2 ∷ 3 ∷ 3 ∷ []);
  refusal = 0;
  best = silent;
  host = said (22 ∷ 0 ∷ 0 ∷ 0 ∷ 0 ∷ 0 ∷ 0 ∷ 0 ∷ 2 ∷ 0 ∷ 0 ∷ 0 ∷ 3 ∷ 1 ∷ 2 ∷ 3 ∷ 3 ∷ 6 ∷ 0 ∷ 0 ∷ 0 ∷ 4 ∷ 0 ∷ 0 ∷ 0 ∷ 1 ∷ 0 ∷ 0 ∷ 0 ∷ 0 ∷ 0 ∷ 0 ∷ 0 ∷ 0 ∷ 0 ∷ 0 ∷ 0 ∷ 2 ∷ 0 ∷ 0 ∷ 0 ∷ 0 ∷ 0 ∷ 0 ∷ 0 ∷ 3 ∷ 0 ∷ 0 ∷ 0 ∷ 0 ∷ 0 ∷ 0 ∷ 0 ∷ 0 ∷ 0 ∷ 0 ∷ 0 ∷ 0 ∷ 0 ∷ 0 ∷ 0 ∷ 0 ∷ 0 ∷ 0 ∷ 0 ∷ 0 ∷ 0 ∷ 0 ∷ 0 ∷ 0 ∷ 0 ∷ 0 ∷ 0 ∷ 1 ∷ 0 ∷ 0 ∷ 0 ∷ 0 ∷ 0 ∷ 0 ∷ 0 ∷ 0 ∷ 0 ∷ 0 ∷ 0 ∷ 0 ∷ 0 ∷ 0 ∷ 0 ∷ 0 ∷ 0 ∷ 0 ∷ 0 ∷ 0 ∷ 0 ∷ 0 ∷ 0 ∷ []);
  listing = (99 ∷ 111 ∷ 115 ∷ 116 ∷ 32 ∷ 50 ∷ 50 ∷ 10 ∷ 109 ∷ 111 ∷ 118 ∷ 101 ∷ 115 ∷ 32 ∷ 50 ∷ 10 ∷ 48 ∷ 32 ∷ 49 ∷ 32 ∷ 50 ∷ 10 ∷ 48 ∷ 32 ∷ 51 ∷ 32 ∷ 51 ∷ 10 ∷ 50 ∷ 32 ∷ 50 ∷ 32 ∷ 49 ∷ 10 ∷ []);
}

-- B's patch and paintings without a tree; the record has the best cost, and the tree and the potential of B's certificate
abbrev pub image_b : Bytes
image_b = record {
  image = (4 ∷ 0 ∷ 4 ∷ 0 ∷ 36 ∷ 0 ∷ 0 ∷ 0 ∷ 16 ∷ 0 ∷ 0 ∷ 0 ∷ 52 ∷ 0 ∷ 0 ∷ 0 ∷ 16 ∷ 0 ∷ 0 ∷ 0 ∷ 68 ∷ 0 ∷ 0 ∷ 0 ∷ 16 ∷ 0 ∷ 0 ∷ 0 ∷ 84 ∷ 0 ∷ 0 ∷ 0 ∷ 0 ∷ 0 ∷ 0 ∷ 0 ∷ 0 ∷ 1 ∷ 1 ∷ 0 ∷ 0 ∷ 3 ∷ 1 ∷ 0 ∷ 1 ∷ 2 ∷ 1 ∷ 0 ∷ 2 ∷ 3 ∷ 1 ∷ 0 ∷ 4 ∷ 0 ∷ 0 ∷ 0 ∷ 0 ∷ 0 ∷ 0 ∷ 0 ∷ 0 ∷ 0 ∷ 0 ∷ 0 ∷ 0 ∷ 0 ∷ 0 ∷ 0 ∷ 0 ∷ 0 ∷ 0 ∷ 0 ∷ 0 ∷ 0 ∷ 0 ∷ 0 ∷ 0 ∷ 0 ∷ 0 ∷ 0 ∷ 4 ∷ 0 ∷ 0 ∷ 0 ∷ []);
  refusal = 0;
  best = said certificate_b;
  host = said (4 ∷ 0 ∷ 0 ∷ 0 ∷ 0 ∷ 0 ∷ 0 ∷ 0 ∷ 1 ∷ 0 ∷ 0 ∷ 0 ∷ 0 ∷ 0 ∷ 0 ∷ 1 ∷ 0 ∷ 0 ∷ 0 ∷ 0 ∷ 0 ∷ 0 ∷ 0 ∷ 0 ∷ 0 ∷ 0 ∷ 0 ∷ 0 ∷ 0 ∷ 255 ∷ 255 ∷ 255 ∷ 255 ∷ 0 ∷ 0 ∷ 0 ∷ 0 ∷ 0 ∷ 0 ∷ 0 ∷ 0 ∷ 0 ∷ 0 ∷ 0 ∷ 0 ∷ 4 ∷ 0 ∷ 0 ∷ 0 ∷ 0 ∷ 0 ∷ 0 ∷ 0 ∷ 0 ∷ 0 ∷ 0 ∷ 0 ∷ 0 ∷ 0 ∷ 0 ∷ 0 ∷ 0 ∷ 0 ∷ 0 ∷ 0 ∷ 0 ∷ 0 ∷ 0 ∷ 0 ∷ 0 ∷ 0 ∷ 0 ∷ 0 ∷ 0 ∷ 0 ∷ 0 ∷ 0 ∷ 0 ∷ 0 ∷ 0 ∷ 0 ∷ 0 ∷ 0 ∷ 0 ∷ 0 ∷ 0 ∷ 0 ∷ 0 ∷ 0 ∷ 0 ∷ 0 ∷ 0 ∷ 0 ∷ 0 ∷ 0 ∷ 0 ∷ 0 ∷ []);
  listing = (98 ∷ 101 ∷ 115 ∷ 116 ∷ 32 ∷ 52 ∷ 10 ∷ []);
}

-- 11: 35 bytes
abbrev pub short : Bytes
short = record {
  image = (0 ∷ 0 ∷ 0 ∷ 0 ∷ 0 ∷ 0 ∷ 0 ∷ 0 ∷ 0 ∷ 0 ∷ 0 ∷ 0 ∷ 0 ∷ 0 ∷ 0 ∷ 0 ∷ 0 ∷ 0 ∷ 0 ∷ 0 ∷ 0 ∷ 0 ∷ 0 ∷ 0 ∷ 0 ∷ 0 ∷ 0 ∷ 0 ∷ 0 ∷ 0 ∷ 0 ∷ 0 ∷ 0 ∷ 0 ∷ 0 ∷ []);
  refusal = 11;
  best = silent;
  host = silent;
  listing = (114 ∷ 101 ∷ 102 ∷ 117 ∷ 115 ∷ 101 ∷ 100 ∷ 32 ∷ 49 ∷ 49 ∷ 10 ∷ []);
}

-- 12: first offset 35
abbrev pub early : Bytes
early = record {
  image = (2 ∷ 0 ∷ 0 ∷ 0 ∷ 35 ∷ 0 ∷ 0 ∷ 0 ∷ 0 ∷ 0 ∷ 0 ∷ 0 ∷ 36 ∷ 0 ∷ 0 ∷ 0 ∷ 8 ∷ 0 ∷ 0 ∷ 0 ∷ 44 ∷ 0 ∷ 0 ∷ 0 ∷ 8 ∷ 0 ∷ 0 ∷ 0 ∷ 52 ∷ 0 ∷ 0 ∷ 0 ∷ 0 ∷ 0 ∷ 0 ∷ 0 ∷ 0 ∷ 0 ∷ 0 ∷ 0 ∷ 0 ∷ 0 ∷ 0 ∷ 0 ∷ 0 ∷ 0 ∷ 0 ∷ 0 ∷ 0 ∷ 0 ∷ 0 ∷ 0 ∷ []);
  refusal = 12;
  best = silent;
  host = silent;
  listing = (114 ∷ 101 ∷ 102 ∷ 117 ∷ 115 ∷ 101 ∷ 100 ∷ 32 ∷ 49 ∷ 50 ∷ 10 ∷ []);
}

-- 13: n = 2, mu of 4 bytes
abbrev pub mu_4 : Bytes
mu_4 = record {
  image = (2 ∷ 0 ∷ 0 ∷ 0 ∷ 36 ∷ 0 ∷ 0 ∷ 0 ∷ 0 ∷ 0 ∷ 0 ∷ 0 ∷ 36 ∷ 0 ∷ 0 ∷ 0 ∷ 4 ∷ 0 ∷ 0 ∷ 0 ∷ 40 ∷ 0 ∷ 0 ∷ 0 ∷ 8 ∷ 0 ∷ 0 ∷ 0 ∷ 48 ∷ 0 ∷ 0 ∷ 0 ∷ 0 ∷ 0 ∷ 0 ∷ 0 ∷ 0 ∷ 0 ∷ 0 ∷ 0 ∷ 0 ∷ 0 ∷ 0 ∷ 0 ∷ 0 ∷ 0 ∷ 0 ∷ 0 ∷ []);
  refusal = 13;
  best = silent;
  host = silent;
  listing = (114 ∷ 101 ∷ 102 ∷ 117 ∷ 115 ∷ 101 ∷ 100 ∷ 32 ∷ 49 ∷ 51 ∷ 10 ∷ []);
}

unfoldable pub cases : List Case
cases = a ∷ b ∷ c ∷ d ∷ e ∷ f ∷ f' ∷ g ∷ h ∷ own_potential ∷ seam ∷ n_0 ∷ mu_3 ∷ edge_10 ∷ length_65536 ∷ lonely ∷ heavy ∷ unequal ∷ other_root ∷ no_edge ∷ no_chain ∷ []

unfoldable pub images : List Bytes
images = image_a ∷ image_b ∷ short ∷ early ∷ mu_4 ∷ []
