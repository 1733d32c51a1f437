-- The calls that start an operation or drop a link: the state to which an accepted one leads is sound.
use Rattle.std.proofs.Common.{◌≡◌, ℕ, ◌<◌, List, [], ◌∷◌, map, set, Some, sym, subst}
use Rattle.plan.specs.Plans.{width}
use Rattle.plan.specs.Refusals.{accepted, unless_refused, Test}
use Rattle.shelf.specs.Meaning.{flat, Own, Meaning}
use Rattle.shelf.specs.Calls.{free, known, has_link, full}
use Rattle.shelf.proofs.Basics.{own_below}
use Rattle.shelf.proofs.Granted.{party_in, idle_there, link_own, link_full}
use Rattle.block_parts.specs.Seats.{party_of}
use Rattle.block_rules.specs.declared.parts.LinkState.{LinkState}
use Rattle.block_rules.specs.declared.parts.Access.TheVariants.{ReadCurrent}
use Rattle.block_rules.specs.declared.parts.Job.TheVariants.{Idle, Taking, Checking}
use Rattle.block_rules.specs.Blocks.{State, state_of, link, party, with_job, with_party, with_both, emptied, start_put}
use Rattle.block_rules.specs.Sound.{Sound}
use Rattle.block_rules.specs.Means.{means}
use Rattle.block_rules.proofs.AsShelf.{idle_from, on_from}
use Rattle.block_rules.proofs.Steps.{sound_take, sound_check, sound_put, sound_drop}
use Rattle.block_shelf.specs.declared.block.BlockShelf.{BlockShelf}
use Rattle.block_shelf.specs.States.{block_state}
use Rattle.block_shelf.proofs.Fit.{now_sound}

-- the shelf before the call
module _ {R : Type 0} (d : R) (v : BlockShelf R) where
  abbrev s : State R
  s = block_state v

  abbrev m : Meaning R
  m = means d s

  -- a free link: j is its number among all
  module _ (p i j : ℕ) (us : List Test) (e : accepted j ≡ unless_refused (known v.plan m p ∷ free v.plan m p ∷ has_link v.plan m i ∷ us) (flat v.plan p i)) where
    there : p < v.plan.parties
    there = party_in v.plan m p i j us e

    own : Own v.plan p j
    own = link_own v.plan m p i j us e

    pub within : j < width v.plan
    within = own_below v.plan p j there own

    rests_now : (party s p).job ≡ Idle
    rests_now = idle_from d s p (idle_there v.plan m p i j us e)

    pub take_sound : (c : ℕ) → c < v.plan.channels → (l : LinkState) → l ≡ emptied (link s j) → Sound (with_both s j l p (with_job (party s p) (Taking j c ReadCurrent)))
    take_sound c in_c l k =
        subst (λ (x : LinkState). Sound (with_both s j x p (with_job (party s p) (Taking j c ReadCurrent)))) (sym k) (sound_take s (now_sound v) p there j c rests_now own in_c)

    pub drop_sound : (l : LinkState) → l ≡ emptied (link s j) → ∥ Sound (state_of v.plan v.row.blocks.now v.current.items (set v.links.items j l) (map party_of v.seats.items)) ∥₁
    drop_sound l k =
        ∣ subst (λ (x : LinkState). Sound (state_of v.plan v.row.blocks.now v.current.items (set v.links.items j x) (map party_of v.seats.items))) (sym k) (sound_drop s (now_sound v) p there j rests_now own) ∣₁

  -- a link that is not empty
  module _ (p i j : ℕ) (e : accepted j ≡ unless_refused (known v.plan m p ∷ free v.plan m p ∷ has_link v.plan m i ∷ full v.plan m p i ∷ []) (flat v.plan p i)) where
    abbrev last : List Test
    last = full v.plan m p i ∷ []

    on : (c : ℕ) × ((link s j).hold ≡ Some c)
    on = on_from d s j (link_full v.plan m p i j e)

    pub check_sound : Sound (with_party s p (with_job (party s p) (Checking j)))
    check_sound = sound_check s (now_sound v) p (there p i j last e) j on.0 (rests_now p i j last e) (own p i j last e) on.1

    pub put_sound : (r : R) → Sound (start_put s p j r)
    put_sound r = sound_put s (now_sound v) p (there p i j last e) j on.0 r (rests_now p i j last e) (own p i j last e) on.1
