use Rattle.std.proofs.Common.{ℕ, ◌≤◌, List, All, ◌∙◌, sym, subst}
use Rattle.std.specs.List.Sorted.{IsStrictlyIncreasing}
use Rattle.dl_session.proofs.RiseLemmas.{known-live, known-last, increasing, all_given}
use Rattle.dl_session.proofs.sessions.Sessions.live.Goals as goal

pub returns-clause-all : goal.returns-clause-all
returns-clause-all c = c.as_slice.ensures.value ∙ known-live _ _ _ _ (record { rises = c.self.invariant.0; same = c.self.invariant.1 }) c.self.view_is

pub returns-clause-rising : goal.returns-clause-rising
returns-clause-rising c = subst IsStrictlyIncreasing (sym c.as_slice.ensures.value) (increasing _ _ c.self.invariant.0)

pub returns-clause-given : goal.returns-clause-given
returns-clause-given c =
    subst (λ (t : List ℕ). All (λ x. x ≤ c.args.self.now.last) t) (sym c.as_slice.ensures.value)
    (subst (λ (n : ℕ). All (λ x. x ≤ n) c.self.inside.live.items) (known-last _ _ _ _ c.self.view_is) (all_given _ _ c.self.invariant.0))
