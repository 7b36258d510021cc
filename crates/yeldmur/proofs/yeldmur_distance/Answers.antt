use mathlib.Core.Path.{ap, ◌∙◌}
use Rattle.read_distance.specs.Told.{Told}
use Rattle.yeldmur.specs.Told.{node_distance_told}
use Rattle.yeldmur.proofs.yeldmur_distance.Goals as goal

pub returns : goal.returns
returns c =
    let a = c.args in
    let told = c.tell_distance.ensures in record {
      cost_after = told ∙ ap (λ (t : Told). node_distance_told t a.reached.now a.cost.now) c.distance_at.ensures.value;
      by_index = λ sheet holds same below. told ∙ ap (λ (t : Told). node_distance_told t a.reached.now a.cost.now) (c.distance_at.ensures.read_back sheet holds same below);
    }
