use Rattle.std.proofs.Common.{◌≡◌, ◌-◌, length}
use Rattle.dl_links.specs.Waiting.{AreGone}
use Rattle.dl_links.proofs.filed.Filed.first_waiting.Given as goal

-- what is past was delivered, and the places stay
abbrev pub invariant-loop-self : goal.invariant-loop-self
invariant-loop-self l = (l.self.places ≡ l.initial.self.places) × AreGone l.delivered l.self.places.items l.self.gone

abbrev pub decreases-loop-self : goal.decreases-loop-self
decreases-loop-self l = length l.self.places.items - l.self.gone
