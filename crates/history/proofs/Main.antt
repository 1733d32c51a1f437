-- Every past of a hub of the model has an order of operations, and its turns get on.
use mathlib.Core.Path.{subst}
use lib.ListN.{length}
use Rattle.history.proofs.Hub.{Hub}
use Rattle.history.proofs.Claim.{Ordered, event_at, EveryHistory}
use Rattle.history.proofs.Trace.{hub_end, trace_of}
use Rattle.history.proofs.Time.{order_holds}
use Rattle.history.proofs.Progress.{turns_get_on}

pub every_history : (R : Type 0) → EveryHistory R
unfolding trace_of
every_history R blank amended plan log h past =
    record {
      order =
          subst (λ (x : Hub R). Ordered blank amended (event_at log) (length log) x.shelf.reading) (hub_end blank amended plan past)
          (order_holds blank amended plan (trace_of blank amended plan past));
      get_on = turns_get_on blank amended plan (trace_of blank amended plan past);
    }
