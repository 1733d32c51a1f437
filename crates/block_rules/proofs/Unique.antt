-- A state is sound in one way at most, so `Sound` may stand in a ghost field, truncated, and be taken out again.
use Rattle.std.proofs.Common.{◌≡◌, ℕ, Some, None, Option, refl, ap}
use mathlib.Core.Logic.{∥∥₁_elim}
use mathlib.Core.HLevel.{hedberg, ×_prop}
use native.Mathlib.Nat.{ℕ_set}
use native.Mathlib.Bridge.{le_prop}
use native.Mathlib.Decide.{ℕ_discrete}
use Rattle.plan.specs.declared.check.Plan.{Plan}
use Rattle.shelf.specs.Meaning.{Own}
use Rattle.block_rules.specs.declared.parts.LinkState.{LinkState}
use Rattle.block_rules.specs.declared.parts.Access.{Access}
use Rattle.block_rules.specs.declared.parts.Access.TheVariants.{ReadCurrent, SetGuard, Compare, ReadBlock}
use Rattle.block_rules.specs.declared.parts.Job.{Job}
use Rattle.block_rules.specs.declared.parts.Job.TheVariants.{Idle, Taking, Putting, Scanning, Checking}
use Rattle.block_rules.specs.Blocks.{Party, State, link, party}
use Rattle.block_rules.specs.Sound.{Held, AccessOk, JobOk, Sound}

option_discrete : (a b : Option ℕ) → Dec (a ≡ b)
option_discrete None None = yes refl
option_discrete None (Some y) = no (λ e. cc)
option_discrete (Some x) None = no (λ e. cc)
option_discrete (Some x) (Some y) = elim (ℕ_discrete x y) [ yes e ↦ yes (ap Some e) | no n ↦ no (λ e. n (cc)) ]

option_set : IsSet (Option ℕ)
option_set = hedberg option_discrete

own_prop : (pl : Plan) (p j : ℕ) → IsProp (Own pl p j)
own_prop pl p j x y = λ i. record { from = le_prop x.from y.from i; to = le_prop x.to y.to i }

access_prop : (l : LinkState) (c : ℕ) (a : Access) → IsProp (AccessOk l c a)
access_prop l c ReadCurrent = option_set _ _
access_prop l c SetGuard = option_set _ _
access_prop l c Compare = ×_prop (option_set _ _) (option_set _ _)
access_prop l c ReadBlock = option_set _ _

module _ {R : Type 0} (s : State R) where
  held_prop : (l : LinkState) (c : ℕ) → IsProp (Held s l c)
  held_prop l c x y = λ i. record { channel = le_prop x.channel y.channel i; guarded = option_set _ _ x.guarded y.guarded i; not_free = ℕ_set _ _ x.not_free y.not_free i; known = le_prop x.known y.known i }

  job_prop : (p : ℕ) (q : Party) (job : Job) → IsProp (JobOk s p q job)
  job_prop p q Idle x y = le_prop x y
  job_prop p q (Taking j c a) x y = λ i. record { spare = le_prop x.spare y.spare i; own = own_prop s.plan p j x.own y.own i; channel = le_prop x.channel y.channel i; stage = access_prop (link s j) c a x.stage y.stage i }
  job_prop p q (Putting j h) x y = λ i. record { own = own_prop s.plan p j x.own y.own i; held = option_set _ _ x.held y.held i }
  job_prop p q (Scanning j k) x y = λ i. record {
    own = own_prop s.plan p j x.own y.own i;
    within = le_prop x.within y.within i;
    none = ℕ_set _ _ x.none y.none i;
    few = le_prop x.few y.few i;
    met = λ a c h e m. le_prop (x.met a c h e m) (y.met a c h e m) i;
  }
  job_prop p q (Checking j) x y = λ i. record { spare = le_prop x.spare y.spare i; own = own_prop s.plan p j x.own y.own i; held = option_set _ _ x.held y.held i }

  pub sound_prop : IsProp (Sound s)
  sound_prop x y = λ i. record {
    small = record { parties = le_prop x.small.parties y.small.parties i; links = le_prop x.small.links y.small.links i; channels = le_prop x.small.channels y.small.channels i };
    rows = le_prop x.rows y.rows i;
    currents = ℕ_set _ _ x.currents y.currents i;
    links = ℕ_set _ _ x.links y.links i;
    parties = ℕ_set _ _ x.parties y.parties i;
    once = λ b. ℕ_set _ _ (x.once b) (y.once b) i;
    held = λ j h c e. held_prop (link s j) c (x.held j h c e) (y.held j h c e) i;
    jobs = λ p h. record { size = ℕ_set _ _ (x.jobs p h).size (y.jobs p h).size i; task = job_prop p (party s p) (party s p).job (x.jobs p h).task (y.jobs p h).task i };
  }

  pub sound_out : ∥ Sound s ∥₁ → Sound s
  sound_out t = ∥∥₁_elim t sound_prop (λ x. x)
