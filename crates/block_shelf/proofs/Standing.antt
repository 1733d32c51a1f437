-- What the place question tells, and the laws of places and of held blocks over every run of calls.
use Rattle.std.proofs.Common.{◌≡◌, ℕ, ◌+◌, ◌<◌, List, length, get_or, Some, None, Option, Result, sym, refl, subst, ap, ◌∙◌, arith}
use Rattle.std.specs.Option.{ok_or}
use Rattle.std.proofs.lemmas.Nat.{mul-le}
use Rattle.plan.specs.Plans.{width, need}
use Rattle.plan.specs.Refusals.{accepted, refused, told}
use Rattle.plan.specs.declared.refusal.Refusal.{Refusal}
use Rattle.plan.specs.declared.refusal.Refusal.TheVariants.{NoSuchBlock}
use Rattle.plan.specs.declared.check.ShelfType.TheVariants.{Block}
use Rattle.shelf.specs.Laws.{after_all}
use Rattle.shelf.specs.Beyond.{BeyondStays}
use Rattle.shelf.proofs.Always.{sound_always, beyond_always}
use Rattle.block_rules.specs.declared.parts.Place.{Place}
use Rattle.block_rules.specs.Blocks.{Party, State, party}
use Rattle.block_rules.specs.Counting.{stands_with, standings}
use Rattle.block_rules.specs.Sound.{Sound}
use Rattle.block_rules.specs.Places.{StandsAt, PlaceTold}
use Rattle.block_shelf.specs.Laws.{PlacesStay, HeldBlocksStay, ChannelTold, PartyTold}
use Rattle.block_parts.specs.declared.seat.Seat.{Seat}
use Rattle.block_parts.specs.Seats.{party_of, place_with}
use Rattle.block_parts.proofs.Standing.{told_stands, told_none}
use Rattle.block_shelf.specs.declared.block.BlockShelf.{BlockShelf}
use Rattle.block_shelf.specs.States.{block_state}
use Rattle.block_shelf.proofs.Fit.{now_sound, seat_in}
use Rattle.block_rules.proofs.AsShelf.{block_shelf_rules}
use Rattle.block_rules.proofs.Placed.{none_there, none_with, one_only, placed_known, not_placed, placed}
use Rattle.block_rules.proofs.Writing.{call_writes, call_untouched, held_safe, call_spares}

module _ {R : Type 0} (v : BlockShelf R) (n : ℕ) where
  abbrev s : State R
  s = block_state v

  ok : Sound s
  ok = now_sound v

  -- a block beyond what a place can be told of
  pub too_large : 65535 < n → PlaceTold s n (refused 10)
  too_large h =
      let most = mul-le s.plan.parties (width s.plan + 1) 24 97 ok.small.parties (omega (arith, mul-le s.plan.parties s.plan.links 24 4 ok.small.parties ok.small.links)) in
      (omega (arith, h, most, ok.small.channels), refl)

  -- the block that is looked for, b, is the one that was asked for
  module _ (b : ℕ) (same : b ≡ n) where
    pub told_place : (x : Place) → StandsAt s b x → PlaceTold s n (accepted x)
    told_place x h = subst (λ (k : ℕ). PlaceTold s k (accepted x)) same (placed_known s ok b x h, one_only s ok b x h)

    -- found neither with a channel nor with a party
    told_nowhere : ChannelTold s b None → PartyTold s b None → PlaceTold s n (refused 10)
    unfolding standings
    told_nowhere channels parties = subst (λ (k : ℕ). PlaceTold s k (refused 10)) same (not_placed s ok b none, refl)
      where
        none : standings s b ≡ 0
        none = omega (arith, none_there b s.current (λ i h e. channels i (omega (arith, h, ok.currents)) e), none_with b s.parties (λ p h. parties p (omega (arith, h, ok.parties))))

    -- what is told of a block that no channel has
    pub told_with : ChannelTold s b None → (o : Option Place) → PartyTold s b o → (r : Result Place Refusal) → r ≡ ok_or o NoSuchBlock → PlaceTold s n (told r)
    told_with channels None parties r e = subst (λ (x : Result Place Refusal). PlaceTold s n (told x)) (sym e) (told_nowhere channels parties)
    told_with channels (Some x) there r e = subst (λ (y : Result Place Refusal). PlaceTold s n (told y)) (sym e) (told_place x there)

module _ {R : Type 0} (d : R) (v : BlockShelf R) where
  pub places_stay : PlacesStay d (block_state v)
  places_stay calls = placed (after_all (block_shelf_rules d) (block_state v) calls) (sound_always (block_shelf_rules d) (block_state v) (now_sound v) calls)

  pub held_stay : HeldBlocksStay d (block_state v)
  held_stay calls =
      let t = after_all (block_shelf_rules d) (block_state v) calls in
      let sound = sound_always (block_shelf_rules d) (block_state v) (now_sound v) calls in
      record {
        safe = held_safe d t sound;
        writes = call_writes d t sound;
        unwritten = call_spares d t sound;
      }

  pub beyond_stays : BeyondStays (block_shelf_rules d) (λ t. t.row) (need Block v.plan) (block_state v)
  beyond_stays = beyond_always (block_shelf_rules d) (λ t. t.row) (need Block) (call_untouched d) (block_state v) (now_sound v)

-- a walk over the seats that has come to seat q of party p
module _ {R : Type 0} (v : BlockShelf R) (p : ℕ) (q : Seat) (items : List Seat) (all : items ≡ v.seats.items) (is : q ≡ get_or items p q) (within : p < length items) (b : ℕ) where
  here : (p < v.plan.parties) × (party_of q ≡ party (block_state v) p)
  here = seat_in v p q items all is within

  pub found_here : (x : Place) → Some x ≡ place_with (party_of q) p b → StandsAt (block_state v) b x
  found_here x e = told_stands (block_state v) p b here.0 x (e ∙ ap (λ (y : Party). place_with y p b) here.1)

  pub not_here : None ≡ place_with (party_of q) p b → stands_with b (party (block_state v) p) ≡ 0
  not_here e = told_none (block_state v) p b (e ∙ ap (λ (y : Party). place_with y p b) here.1)
