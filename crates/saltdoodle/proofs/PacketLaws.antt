-- What is told of a packet, case by case: the packet itself, and where its payload stands.
use mathlib.Core.Path.{◌≡◌, refl, sym, ◌∙◌, ap}
use mathlib.Core.Bool.{true, false}
use Rattle.std.specs.Prelude.{None, Some, Ok, Err}
use Prim.Native.Nat.{ℕ}
use lib.ListN.{length, take, drop}
use Rattle.sizes.specs.Words.{when◌then◌else◌}
use Rattle.lifecycle.specs.Parts.{past_store}
use Rattle.definition.specs.Payload.{Store, Stores, Place, no_place, bytes_of, store_of, place_of, payload_of}
use Rattle.sender.specs.SenderCalls.{packet_said}
use Rattle.sender.specs.declared.sender.Packet.{Packet}
use Rattle.host_structs.specs.declared.answers.Sent.{Sent}
use Rattle.saltdoodle.specs.Record.{packet_sent, PacketKept, place_named, place_in, PayloadTold}
use Rattle.saltdoodle.specs.declared.record.PayloadPlace.{PayloadPlace}

pub packet_kept : PacketKept
packet_kept taken (Ok (Some p)) = refl
packet_kept taken (Ok None) = refl
packet_kept taken (Err why) = refl

-- the store that a packet's payload stands in
of_fdt : (p : Packet) → p.is_fdt ≡ true → store_of (packet_said p) ≡ Store.fdts
unfolding store_of
of_fdt p e = rw e

of_object : (p : Packet) → p.is_fdt ≡ false → store_of (packet_said p) ≡ Store.objects
unfolding store_of
of_object p e = rw e

module _ (n f : ℕ) (s : Sent) (r : PayloadPlace) where
  -- the bytes are those at the place
  placed : ((m : Stores) → length m.of_objects ≡ n → length m.of_fdts ≡ f → place_named r ≡ place_of m (packet_sent s)) → PayloadTold n f s r
  unfolding payload_of
  placed h = record { place = h; bytes = λ m a b. ap (λ (q : Place). take q.part.size (drop q.part.start (bytes_of m q.store))) (h m a b) }

  -- without a packet
  pub of_none : s.sent ≡ false → place_named r ≡ no_place → PayloadTold n f s r
  unfolding place_of
  of_none e h = placed (λ m a b. h ∙ sym (ap (λ t. place_of m (when t then Some (packet_said s.packet) else None)) e))

  -- with one whose payload stands in the store x of length k
  in_store : (x : Store) (k : ℕ) (m : Stores) → s.sent ≡ true → store_of (packet_said s.packet) ≡ x → length (bytes_of m x) ≡ k
      → place_of m (packet_sent s) ≡ (when past_store k s.packet.symbol.payload then no_place else record { store = x; part = s.packet.symbol.payload })
  unfolding place_of
  in_store x k m e stands long =
      ap (λ t. place_of m (when t then Some (packet_said s.packet) else None)) e
      ∙ ap (λ y. when past_store (length (bytes_of m y)) s.packet.symbol.payload then no_place else record { store = y; part = s.packet.symbol.payload }) stands
      ∙ ap (λ j. when past_store j s.packet.symbol.payload then no_place else record { store = x; part = s.packet.symbol.payload }) long

  pub of_an_fdt : s.sent ≡ true → s.packet.is_fdt ≡ true → place_named r ≡ place_in true f s.packet.symbol.payload → PayloadTold n f s r
  of_an_fdt e d h = placed (λ m a b. h ∙ sym (in_store Store.fdts f m e (of_fdt s.packet d) b))

  pub of_an_object : s.sent ≡ true → s.packet.is_fdt ≡ false → place_named r ≡ place_in false n s.packet.symbol.payload → PayloadTold n f s r
  of_an_object e d h = placed (λ m a b. h ∙ sym (in_store Store.objects n m e (of_object s.packet d) a))
