-- `charts::reach::with_sample` takes the place that the line is, if it is one. Assumes nothing.
use Rattle.charts.specs.Scale.{with_sample}
use Rattle.charts.proofs.reach.with_sample.Goals as goal

pub returns-in-Some : goal.returns-in-Some
unfolding with_sample
returns-in-Some c = rw (← c.in-Some.ensures) c.with_place.ensures

pub returns-in-None : goal.returns-in-None
unfolding with_sample
returns-in-None c = rw (← c.in-None.ensures)
