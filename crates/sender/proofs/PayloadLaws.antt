-- The payload of a run's answer, case by case.
use mathlib.Core.Path.{◌≡◌, refl, sym, ◌∙◌, ap}
use mathlib.Core.Bool.{true, false}
use Rattle.std.specs.Prelude.{None, Some, Ok, Err}
use mathlib.Core.List.{List, []}
use Prim.Native.Nat.{ℕ, ◌+◌, ◌-◌}
use native.Mathlib.Omega.{arith}
use lib.ListN.{length, take, drop}
use Rattle.sizes.specs.Words.{when◌then◌else◌}
use Rattle.lifecycle.specs.Parts.{past_store}
use Rattle.lifecycle.proofs.PartLaws.{lies_in}
use Rattle.lifecycle.specs.declared.parts.Part.{Part}
use Rattle.definition.specs.Payload.{Stores, Place, no_place, bytes_of, store_of, place_of, payload_of}
use Rattle.sender.specs.SenderCalls.{RunAnswer, packet_said, packet_in}
use Rattle.sender.specs.declared.sender.Packet.{Packet}

-- an answer that is no packet's has no packet
pub no_packet : (m : Stores) (a : RunAnswer) → ((p : Packet) → a ≡ Ok (Some p) → ⊥) → [] ≡ payload_of m (packet_in a)
unfolding payload_of place_of
no_packet m (Ok (Some p)) h = absurd (h p refl)
no_packet m (Ok None) h = refl
no_packet m (Err why) h = refl

-- the bytes of the store that a packet's payload stands in
module _ (m : Stores) (p : Packet) where
  pub of_fdt : p.is_fdt ≡ true → m.of_fdts ≡ bytes_of m (store_of (packet_said p))
  unfolding store_of
  of_fdt e = rw e

  pub of_object : p.is_fdt ≡ false → m.of_objects ≡ bytes_of m (store_of (packet_said p))
  unfolding store_of
  of_object e = rw e

-- a packet whose payload stands in a store of the bytes b
module _ (m : Stores) (a : RunAnswer) (p : Packet) (b : List ℕ) (said : a ≡ Ok (Some p)) (stands : b ≡ bytes_of m (store_of (packet_said p))) where
  abbrev c : Part
  c = p.symbol.payload

  -- the place that its payload has if it does not end past the store
  abbrev there : Place
  there = record { store = store_of (packet_said p); part = c }

  placed : place_of m (packet_in a) ≡ (when past_store (length b) c then no_place else there)
  unfolding place_of
  placed = ap (λ x. place_of m (packet_in x)) said ∙ ap (λ x. when past_store (length x) c then no_place else there) (sym stands)

  at_place : (q : Place) → place_of m (packet_in a) ≡ q → payload_of m (packet_in a) ≡ take q.part.size (drop q.part.start (bytes_of m q.store))
  unfolding payload_of
  at_place q e = ap (λ (q : Place). take q.part.size (drop q.part.start (bytes_of m q.store))) e

  -- it does not fit
  pub left_out : past_store (length b) c ≡ true → [] ≡ payload_of m (packet_in a)
  left_out e = sym (at_place no_place (placed ∙ ap (λ t. when t then no_place else there) e))

  -- it fits
  pub cut_out : past_store (length b) c ≡ false → take (c.start + c.size - c.start) (drop c.start b) ≡ payload_of m (packet_in a)
  cut_out e =
      let n : c.start + c.size - c.start ≡ c.size = omega arith in
      rw n
      (ap (λ x. take c.size (drop c.start x)) stands
      ∙ sym (at_place there (placed ∙ ap (λ t. when t then no_place else there) e)))

-- what the payload of an answer is proved by
pub ruleset cutting = (lies_in, no_packet, of_fdt, of_object, left_out, cut_out)
