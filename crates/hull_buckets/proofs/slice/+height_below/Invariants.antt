-- each half is a smaller word
use Rattle.hull_buckets.proofs.slice.+height_below.Given as goal

abbrev pub decreases-height_below : goal.decreases-height_below
decreases-height_below a = a.mask
