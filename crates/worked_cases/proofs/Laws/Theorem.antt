-- The one theorem on the whole table of cases, by computation on the definitions.
use Prim.Native.Nat.{ℕ}
use mathlib.Core.Path.{◌≡◌, refl}
use mathlib.Core.Bool.{true, ◌&&◌}
use mathlib.Core.List.{[], ◌∷◌, flat_map, map}
use lib.ListN.{take}
use lib.IntN.{ℤ}
use lib.Ieee.{of_bits, to_bits}
use Rattle.arithmetic.specs.Bools.{all, any}
use Rattle.arithmetic.specs.Mask.{mask}
use Rattle.arithmetic.specs.Sum.{sum}
use Rattle.arithmetic.specs.Integer.{sum_ℤ}
use Rattle.arithmetic.specs.Refusal.{refusal}
use Rattle.arithmetic.specs.Table.{tab, rows, appended}
use Rattle.vertex_set.specs.Lowest.{lowest}
use Rattle.rooted_tree.specs.Chain.{climb, below, depth}
use Rattle.graph.specs.Graph.{joined, edge_length}
use Rattle.graph.specs.Distance.{via, distance}
use Rattle.graph.specs.Checks.{vertices_ok, lists_fit, edge_fits, length_fits, reached, connected, size_checks, edge_checks}
use Rattle.tree_walks.specs.MarkAncestors.{mark_refusal, marked_words, mark_table, mark_each}
use Rattle.tree_checks.specs.Checks.{parents_ok, tree_edges_ok, chains_ok, tree_checks}
use Rattle.skin_weights.specs.Weight.{in_unit_interval, whole_grains, amount_of, weight_of}
use Rattle.skin_weights.specs.Lists.{amounts_refusal, weights_refusal, amounts_of, weights_of, amounts_table, weights_table}
use Rattle.measures.specs.Checks.{total_ok, totals_equal, measure_checks}
use Rattle.distance_queries.specs.Within.{within_refusal, word_within}
use Rattle.distance_queries.specs.Nearest.{nearest_refusal, nearer, nearest}
use Rattle.given_tree.specs.Given.{parents_long, answers_ok}
use Rattle.plan_rule.specs.Plan.{moved, matched, layer, layers, plan, moves}
use Rattle.tree_figures.specs.Figures.{imbalance, potential, tree_cost}
use Rattle.duality.specs.BestCost.{least, parent_tables, costs, best_cost}
use Rattle.transport_problem.specs.Checks.{measures_long}
use Rattle.optimal_transport.specs.Solve.{solve_refusal}
use Rattle.little_endian.specs.LittleEndian.{two, byte_of}
use Rattle.directory.specs.Directory.{pair_ok}
use Rattle.image.specs.Image.{size_ok, layout_ok}
use Rattle.image.specs.ImageChecks.{image_checks}
use Rattle.packed_image.specs.Packed.{header, packed}
use Rattle.image_writer.specs.ImageBytes.{section, image_bytes}
use Rattle.image_writer.specs.WriteImage.{tables_ok, numbers_ok, write_checks}
use Rattle.image_rewriter.specs.Rewrite.{rewrite_refusal}
use Rattle.host_record.specs.Record.{record_bytes}
use Rattle.image_reader.specs.Read.{room_ok}
use Rattle.image_answer.specs.ImageAnswer.{answer_refusal}
use Rattle.weight_mover.specs.Run.{answer_record, evaluated_record}
use Rattle.cost_sheet.specs.Sheet.{count_of, cost_sum, greatest_cost, first_greatest}
use Rattle.image_sequence.specs.Sequence.{sequence_ok}
use Rattle.sequence_report.specs.Report.{report_refusal}
use Rattle.decimal_text.specs.Decimal.{digits}
use Rattle.page_line.specs.Line.{spaces, two_digits, up_to, right_aligned, vertex_line}
use Rattle.preorder.specs.Preorder.{preorder, lines, page}
use Rattle.tree_page.specs.Page.{page_refusal}
use Rattle.listing_lines.specs.Lines.{entry_line, row_lines, plan_lines}
use Rattle.listing.specs.Listing.{listing, evaluated_listing}
use Rattle.worked_cases.specs.Figures.{sames, certifies, holds, reads, every}
use Rattle.worked_cases.specs.Cases.{image_b, cases, images}
use Rattle.worked_cases.specs.Marks.{marked, mark_cases}
use Rattle.worked_cases.specs.Images.{writes, rewrites, write_cases, rewrite_cases}
use Rattle.worked_cases.specs.Pages.{in_columns, line_read, prints, page_cases}
use Rattle.worked_cases.specs.Queries.{reaches, finds, within_cases, nearest_cases}
use Rattle.worked_cases.specs.Reports.{reports, report_cases}
use Rattle.worked_cases.specs.Weights.{turns_in, turns_out, weight_cases, amount_cases}

pub cases_hold : every holds cases && every reads images ≡ true
unfolding all any sum sum_ℤ tab rows climb below depth joined edge_length refusal vertices_ok lists_fit edge_fits length_fits reached connected size_checks edge_checks total_ok totals_equal parents_ok tree_edges_ok chains_ok measure_checks tree_checks parents_long answers_ok imbalance potential tree_cost flat_map least parent_tables costs best_cost measures_long solve_refusal lowest moved layer layers plan moves two size_ok pair_ok layout_ok room_ok image_checks byte_of record_bytes answer_refusal evaluated_record digits entry_line row_lines plan_lines evaluated_listing listing sames certifies holds reads every cases images matched
cases_hold = refl

-- the record of B's image without a tree begins with the best cost, whichever tree and potential come back
pub image_b_cost : (p : ℕ → ℕ) (u : ℕ → ℤ) → take 8 (answer_record image_b.image p u) ≡ 4 ∷ 0 ∷ 0 ∷ 0 ∷ 0 ∷ 0 ∷ 0 ∷ 0 ∷ []
unfolding all any sum sum_ℤ tab rows climb below joined edge_length refusal tree_checks parents_ok tree_edges_ok chains_ok imbalance tree_cost flat_map least parent_tables costs best_cost two byte_of record_bytes
image_b_cost p u = refl

-- the climbs of document 02, by computation too
pub marks_hold : every marked mark_cases ≡ true
unfolding all tab climb below refusal vertices_ok parents_ok chains_ok mark_refusal marked_words mark_table mark_each sames every marked
marks_hold = refl

-- and its weights
pub weights_hold : every turns_in weight_cases && every turns_out amount_cases ≡ true
unfolding all tab refusal of_bits to_bits map in_unit_interval whole_grains amount_of weight_of amounts_refusal weights_refusal amounts_of weights_of amounts_table weights_table sames every turns_in turns_out
weights_hold = refl

-- and its writer of images
pub images-written : every writes write_cases && every rewrites rewrite_cases ≡ true
unfolding all sum tab rows appended refusal vertices_ok lists_fit size_checks two byte_of size_ok pair_ok layout_ok image_checks header packed section image_bytes tables_ok numbers_ok write_checks rewrite_refusal sames every writes rewrites
images-written = refl

-- and its queries by distance
pub queries_answered : every reaches within_cases && every finds nearest_cases ≡ true
unfolding all any sum tab joined edge_length refusal vertices_ok lists_fit edge_fits length_fits reached connected size_checks edge_checks total_ok mask via distance within_refusal word_within nearest_refusal nearer nearest every reaches finds
queries_answered = refl

-- and its reports
pub reports-told : every reports report_cases ≡ true
unfolding all any sum sum_ℤ tab climb below joined edge_length refusal vertices_ok lists_fit edge_fits length_fits reached connected edge_checks total_ok totals_equal parents_ok tree_edges_ok chains_ok measure_checks tree_checks imbalance tree_cost flat_map least parent_tables costs best_cost lowest two size_ok pair_ok layout_ok image_checks answer_refusal count_of cost_sum greatest_cost first_greatest sequence_ok report_refusal sames every reports
reports-told = refl

-- and its pages
pub pages_printed : every prints page_cases ≡ true
unfolding all any sum sum_ℤ tab appended climb below depth joined edge_length refusal vertices_ok lists_fit edge_fits length_fits reached connected size_checks edge_checks total_ok totals_equal parents_ok tree_edges_ok chains_ok measure_checks tree_checks measures_long parents_long imbalance potential digits spaces two_digits up_to right_aligned vertex_line preorder lines page page_refusal sames every in_columns line_read prints
pages_printed = refl
