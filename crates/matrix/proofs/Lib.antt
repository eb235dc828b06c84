-- Worked cases; then the laws, each file over the ones before it. The theorems on span, rank and solving:
-- a span test is true exactly when coefficients exist: `in_span_iff` (Search)
-- kept columns are independent, `pivots_kept` (Greedy), reach what all tried columns reach, `pivots_reach` (Rank), and are at most r, `rank_most` (Rank)
-- rank r exactly when every right-hand side is reached: `rank_iff` (Greedy); the rank in any order is the same: `rank_order` (Rank)
-- one solution for each right-hand side, whatever stands at the other places: `solve_exists`, `solve_unique` (Solutions)
-- row operations leave the span, `span_swap`, `span_scale`, `span_below`, `span_above`, and rows of the same span take vectors alike, `span_alike` (RowSpan)
-- the first pass leaves 1 on the diagonal of the kept columns and 0 below, `stepped_lowered`, which is enough for the test of a column, `test_in`, `test_out`;
-- the last pass makes them the identity, `raise_reduced`; the coefficients of a column, `reduced_column`, are then the only ones, `reduced_one` (Elimination)
-- elimination keeps the pivots, `eliminate_pivots` (Kept); what was tried stays as its step left it, `end_one`, `end_Below`, `end_None` (Tried);
-- the values at the pivots, from the last row on, `back_solves` (Values);
-- columns in the order of places, and one more for what is known: as many are kept, `image_rank`, for the same places, `image_pivots` (FirstPart), and the
-- values at the pivots are the same, `backed_alike`, `fill_holds` (KnownPart);
-- the rank of the first columns depends on no others, `rank_alike`, and where it is full that of all is, `full_more` (FirstPart);
-- a row less a block's rows is what the steps make of it, `less_more` (Less), `lazy_pivot` (Lazy); an entry is the sum of two before it, `entry_sum`, and
-- that of a row's own trits its combination, `entry_base3` (Entries); where a block's rows stand, `basis_table`, one after another, `basis_less` (BasisRows);
-- blocks one after another are columns tried, `lowering_next` (Lowering)
pub mod Cases
pub mod Field
pub mod Dots
pub mod Dimension
pub mod Places
pub mod Search
pub mod Greedy
pub mod Orders
pub mod Sums
pub mod Counts
pub mod Rank
pub mod Solutions
pub mod RowSpan
pub mod Steps
pub mod Elimination
pub mod Kept
pub mod Tried
pub mod Values
pub mod Less
pub mod Lazy
pub mod Entries
pub mod BasisRows
pub mod Blocks
pub mod Lowering
pub mod FirstPart
pub mod KnownPart
pub mod Fills
