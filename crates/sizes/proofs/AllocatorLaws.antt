-- Laws of the allocator: what each call makes of the entries in use, and that the allocator stays valid.
use Rattle.std.proofs.Common.{◌≡◌, ℕ, zero, suc, ◌%◌, ◌^◌, ◌<◌, ◌≤◌, Bool, true, false, not, eqb, ltb, List, [], ◌∷◌, ◌++◌, map, length, get_or, set, replicate, sym, refl, ap, ◌∙◌, subst, add-one, arith, lit≤, length-append, length-set, length-take-le, get_or-set_other, get_or-take, take-suc-set, ltb-true, le-ltb, lt-ltb, eqb-true}
use Rattle.std.specs.Prelude.{Option, None, Some, Ok, Err}
use Rattle.sizes.specs.declared.refusal.Refusal.TheVariants as Because
use Prim.Native.Nat.{◌∣◌}
use native.Mathlib.Nat.{mod-mod_of_dvd, dvd_of_mod-eq-zero}
use lib.ListN.{length-replicate, length-map}
use lib.Seq.{take-set-lt}
use Rattle.sizes.specs.Words.{when◌then◌else◌, maybe, over, given, cut, place, collect, Each, has, one_if, times}
use Rattle.sizes.specs.Limits.{toi_entries}
use Rattle.sizes.specs.Toi.{skip_zero, cut_to, first_toi, after, free_from, next_toi, Toi}
use Rattle.sizes.specs.Allocator.{bits, Width, noted, held, loose_in, no_entry, entry_is, new_allocator, noting, moved_on, Allocated, Changed, allocated_of, bound_at, Fresh, entry_gone, unchanged, changed, claimed_of, dropped_of, ValidAllocator, Searchable, Opened, Gives, Becomes}
use Rattle.sizes.specs.declared.toiallocator.ToiMaxLength.{ToiMaxLength}
use Rattle.sizes.specs.declared.toiallocator.ToiMaxLength.TheVariants.{ToiMax16, ToiMax32, ToiMax48, ToiMax64}
use Rattle.sizes.specs.declared.toiallocator.Entry.{Entry}
use Rattle.sizes.specs.declared.toiallocator.ToiAllocator.{ToiAllocator}
use Rattle.sizes.proofs.Tests.{Tested, pass, fail, tested, and_left, none≢some}
use Rattle.sizes.proofs.Lists.{Hit, Sought, hit, miss, sought, at_take, at_get, each_append, each_cut, map_append, map_cut, map_set_same, times_append, times_cut, has_none, has_cut}
use Rattle.sizes.proofs.Arrays.{getD_shut, take_shut, length_shut}
use Rattle.sizes.proofs.ToiLaws.{first_range, next_range, next_free, next_first}

pub width_16 : (n : ℕ) → Width n → 16 ≤ n
width_16 n u = subst (λ k. 16 ≤ k) (sym u.1) (go u.0)
  where
    go : (w : ToiMaxLength) → 16 ≤ bits w
    go ToiMax16 = lit≤ tt
    go ToiMax32 = lit≤ tt
    go ToiMax48 = lit≤ tt
    go ToiMax64 = lit≤ tt

-- a sum that wraps at 64 bits is cut to the width as the whole sum is
pub cut_64 : (w n : ℕ) → Width w → n % 2 ^ 64 % 2 ^ w ≡ n % 2 ^ w
cut_64 w n u = subst (λ k. n % 2 ^ 64 % 2 ^ k ≡ n % 2 ^ k) (sym u.1) (mod-mod_of_dvd (2 ^ bits u.0) n (go u.0))
  where
    go : (w : ToiMaxLength) → 2 ^ bits w ∣ 2 ^ 64
    go ToiMax16 = dvd_of_mod-eq-zero (2 ^ 16) refl
    go ToiMax32 = dvd_of_mod-eq-zero (2 ^ 32) refl
    go ToiMax48 = dvd_of_mod-eq-zero (2 ^ 48) refl
    go ToiMax64 = dvd_of_mod-eq-zero (2 ^ 64) refl

-- as many numbers are held as entries are in use
pub held_length : (a : ToiAllocator) → ValidAllocator a → length (held a) ≡ a.entered
held_length a v = length-map (noted a) (λ (e : Entry). e.toi) ∙ length-take-le a.entered a.entries (let h = v.sized in let g = v.room in omega arith)

-- one more number that was not in the list
once_more : (l : List ℕ) (t : ℕ) → ((n : ℕ) → times n l ≤ 1) → has t l ≡ false → (n : ℕ) → times n (l ++ (t ∷ [])) ≤ 1
once_more l t o f n = go (tested (eqb t n))
  where
    go : Tested (eqb t n) → times n (l ++ (t ∷ [])) ≤ 1
    go (pass e) =
        let a = times_append n l (t ∷ []) in
        let b = ap one_if e in
        let c : times n l ≡ 0 = subst (λ m. times m l ≡ 0) (eqb-true t n e) (has_none t l f) in omega arith
    go (fail e) = let a = times_append n l (t ∷ []) in let b = ap one_if e in let c = o n in omega arith

pub valid_opening : (w : ToiMaxLength) (n : ℕ) → ValidAllocator (new_allocator (bits w) n)
unfolding new_allocator
valid_opening w n =
    record {
      wide = (w, refl);
      sized = length-replicate toi_entries no_entry;
      room = omega arith;
      clear = λ i h. blank toi_entries i;
      once = λ m. omega arith;
      ranged = tt;
      next_ranged = first_range (bits w) n (width_16 (bits w) (w, refl));
      next_free = refl;
    }
  where
    blank : (k i : ℕ) → get_or (replicate k no_entry) i no_entry ≡ no_entry
    blank zero i = refl
    blank (suc k) zero = refl
    blank (suc k) (suc i) = blank k i

module _ (a : ToiAllocator) (v : ValidAllocator a) where
  pub noted_noting : (flag : Bool) → a.entered < toi_entries → noted (noting flag a) ≡ noted a ++ (record { toi = a.next; loose = flag } ∷ [])
  unfolding noting
  noted_noting flag h = rw (add-one a.entered) (take-suc-set a.entries a.entered _ (let g = v.sized in omega arith))

  pub held_noting : (flag : Bool) → a.entered < toi_entries → held (noting flag a) ≡ held a ++ (a.next ∷ [])
  held_noting flag h = ap (map (λ (e : Entry). e.toi)) (noted_noting flag h) ∙ map_append (λ (e : Entry). e.toi) (noted a) _

  held_room : (flag : Bool) → a.entered < toi_entries → length (held (noting flag a)) ≤ toi_entries
  held_room flag h =
      let x = ap length (held_noting flag h) in
      let y = length-append (held a) (a.next ∷ []) in
      let z = held_length a v in omega arith

  valid_given : (flag : Bool) → a.entered < toi_entries → ValidAllocator (moved_on (noting flag a))
  unfolding moved_on noting
  valid_given flag h =
      let e = held_noting flag h in
      let w = width_16 a.width v.wide in
      record {
        wide = v.wide;
        sized = length-set a.entries a.entered _ ∙ v.sized;
        room = omega arith;
        clear = λ i g. get_or-set_other a.entries a.entered i _ no_entry (λ q. absurd (omega arith)) ∙ v.clear i (omega arith);
        once = λ n. subst (λ l. times n l ≤ 1) (sym e) (once_more (held a) a.next v.once v.next_free n);
        ranged = subst (Each (Toi a.width)) (sym e) (each_append (Toi a.width) (held a) (a.next ∷ []) v.ranged (v.next_ranged, tt));
        next_ranged = next_range a.width (held (noting flag a)) a.next w;
        next_free = next_free a.width (held (noting flag a)) a.next w (held_room flag h);
      }

  pub valid_allocated : (flag : Bool) → ValidAllocator (allocated_of flag a).allocator
  unfolding allocated_of
  valid_allocated flag = go (tested (ltb a.entered toi_entries))
    where
      go : Tested (ltb a.entered toi_entries)
          → ValidAllocator (when◌then◌else◌ {A = Allocated} (ltb a.entered toi_entries) (record { answer = Ok a.next; allocator = moved_on (noting flag a) }) (record { answer = Err Because.Full; allocator = a })).allocator
      go (pass e) = rw e (valid_given flag (ltb-true a.entered toi_entries e))
      go (fail e) = rw e v

  accepted : (flag : Bool) → a.entered < toi_entries → allocated_of flag a ≡ record { answer = Ok a.next; allocator = moved_on (noting flag a) }
  unfolding allocated_of
  accepted flag h = rw (lt-ltb a.entered toi_entries h)

  same : (flag : Bool) → noted (moved_on (noting flag a)) ≡ noted (noting flag a)
  unfolding moved_on
  same flag = refl

  -- what is promised of an accepted call
  pub given_fresh : (flag : Bool) → a.entered < toi_entries → Fresh flag a (allocated_of flag a)
  unfolding moved_on noting
  given_fresh flag h = subst (Fresh flag a) (sym (accepted flag h)) (record {
    given = refl;
    ranged = v.next_ranged;
    unheld = v.next_free;
    noted_last = same flag ∙ noted_noting flag h;
    next = next_first a.width (held (noting flag a)) a.next (width_16 a.width v.wide) (held_room flag h);
  })

  module _ (t : ℕ) (flag : Bool) (i : ℕ) (e : Entry) (h : Hit (entry_is t flag) (noted a) i e) where
    inside : i < a.entered
    inside = at_take a.entries a.entered i e h.stands

    named : e.toi ≡ t
    unfolding entry_is
    named = eqb-true e.toi t (and_left (eqb e.toi t) (when flag then e.loose else not e.loose) h.passes)

    -- the entry is exchanged in its place
    pub noted_bound : noted (bound_at a t i) ≡ set (noted a) i (record { toi = t; loose = false })
    unfolding bound_at
    noted_bound = take-set-lt a.entered a.entries i _ inside

    pub held_bound : held (bound_at a t i) ≡ held a
    held_bound = ap (map (λ (x : Entry). x.toi)) noted_bound ∙ map_set_same (λ (x : Entry). x.toi) (noted a) i _ e h.stands (sym named)

    pub valid_bound : ValidAllocator (bound_at a t i)
    unfolding bound_at
    valid_bound =
        let q = inside in
        record {
          wide = v.wide;
          sized = length-set a.entries i _ ∙ v.sized;
          room = v.room;
          clear = λ j g. get_or-set_other a.entries i j _ no_entry (λ r. absurd (omega arith)) ∙ v.clear j g;
          once = λ n. subst (λ l. times n l ≤ 1) (sym held_bound) (v.once n);
          ranged = subst (Each (Toi a.width)) (sym held_bound) v.ranged;
          next_ranged = v.next_ranged;
          next_free = subst (λ l. has a.next l ≡ false) (sym held_bound) v.next_free;
        }

    -- the entry is gone, and the others keep their order
    pub noted_without : noted (entry_gone a i) ≡ cut (noted a) i
    unfolding entry_gone
    noted_without = take_shut no_entry a.entries i a.entered inside (let g = v.sized in let r = v.room in omega arith)

    pub held_without : held (entry_gone a i) ≡ cut (held a) i
    held_without = ap (map (λ (x : Entry). x.toi)) noted_without ∙ map_cut (λ (x : Entry). x.toi) (noted a) i

    pub valid_without : ValidAllocator (entry_gone a i)
    unfolding entry_gone
    valid_without =
        let q = inside in
        record {
          wide = v.wide;
          sized = length_shut no_entry a.entries i (let g = v.sized in let r = v.room in omega arith) ∙ v.sized;
          room = (let r = v.room in omega arith);
          clear = λ j g. getD_shut no_entry a.entries i j (omega arith) ∙ v.clear (suc j) (omega arith);
          once = λ n. subst (λ l. times n l ≤ 1) (sym held_without) (let x = times_cut n (held a) i in let y = v.once n in omega arith);
          ranged = subst (Each (Toi a.width)) (sym held_without) (each_cut (Toi a.width) (held a) i v.ranged);
          next_ranged = v.next_ranged;
          next_free = subst (λ l. has a.next l ≡ false) (sym held_without) (has_cut a.next (held a) i v.next_free);
        }

  pub valid_claimed : (t : ℕ) → ValidAllocator (claimed_of t a).allocator
  unfolding claimed_of
  valid_claimed t = go (sought (entry_is t true) (noted a))
    where
      go : Sought (entry_is t true) (noted a) → ValidAllocator (maybe (unchanged a) (λ i. changed (bound_at a t i)) (place (entry_is t true) (noted a))).allocator
      go (hit i e h) = rw h.found (valid_bound t true i e h)
      go (miss p u) = rw p v

  pub valid_dropped : (flag : Bool) (t : ℕ) → ValidAllocator (dropped_of flag t a).allocator
  unfolding dropped_of
  valid_dropped flag t = go (sought (entry_is t flag) (noted a))
    where
      go : Sought (entry_is t flag) (noted a) → ValidAllocator (maybe (unchanged a) (λ i. changed (entry_gone a i)) (place (entry_is t flag) (noted a))).allocator
      go (hit i e h) = rw h.found (valid_without t flag i e h)
      go (miss p u) = rw p v

-- a loose reservation is found exactly where its number is among the loose ones
pub loose_found : (t : ℕ) (l : List Entry) → given (place (entry_is t true) l) ≡ has t (collect loose_in l)
unfolding entry_is
loose_found t [] = refl
loose_found t (e ∷ l) = go (tested e.loose) (tested (eqb e.toi t)) (loose_found t l)
  where
    suc_given : (o : Option ℕ) → given (over suc o) ≡ given o
    suc_given None = refl
    suc_given (Some n) = refl

    go : Tested e.loose → Tested (eqb e.toi t) → given (place (entry_is t true) l) ≡ has t (collect loose_in l)
        → given (place (entry_is t true) (e ∷ l)) ≡ has t (collect loose_in (e ∷ l))
    go (pass p) (pass q) h = rw (q, p, q)
    go (pass p) (fail q) h = rw (q, p, q) (suc_given (place (entry_is t true) l) ∙ h)
    go (fail p) (pass q) h = rw (q, p) (suc_given (place (entry_is t true) l) ∙ h)
    go (fail p) (fail q) h = rw (q, p) (suc_given (place (entry_is t true) l) ∙ h)

-- what a search says of the place that it found
pub found_inside : (a : ToiAllocator) (t : ℕ) (flag : Bool) (i : ℕ) → place (entry_is t flag) (noted a) ≡ Some i → i < a.entered
found_inside a t flag i p = go (sought (entry_is t flag) (noted a))
  where
    go : Sought (entry_is t flag) (noted a) → i < a.entered
    go (hit n e h) = let s : n ≡ i = cc in subst (λ k. k < a.entered) s (at_take a.entries a.entered n e h.stands)
    go (miss q u) = absurd (none≢some (sym q ∙ p))

pub found_toi : (a : ToiAllocator) → ValidAllocator a → (t : ℕ) (flag : Bool) (i : ℕ) (z : Entry) → place (entry_is t flag) (noted a) ≡ Some i → (get_or a.entries i z).toi ≡ t
found_toi a v t flag i z p = go (sought (entry_is t flag) (noted a))
  where
    go : Sought (entry_is t flag) (noted a) → (get_or a.entries i z).toi ≡ t
    go (hit n e h) =
        let s : n ≡ i = cc in
        let q : n < a.entered = at_take a.entries a.entered n e h.stands in
        let g : get_or a.entries n z ≡ e = sym (get_or-take a.entered a.entries n z q) ∙ (at_get z (noted a) n e h.stands).0 in
        subst (λ k. (get_or a.entries k z).toi ≡ t) s (ap (λ (x : Entry). x.toi) g ∙ named a v t flag n e h)
    go (miss q u) = absurd (none≢some (sym q ∙ p))

pub claimed_some : (a : ToiAllocator) (t i : ℕ) → place (entry_is t true) (noted a) ≡ Some i → claimed_of t a ≡ changed (bound_at a t i)
unfolding claimed_of
claimed_some a t i p = rw p

pub claimed_none : (a : ToiAllocator) (t : ℕ) → place (entry_is t true) (noted a) ≡ None → claimed_of t a ≡ unchanged a
unfolding claimed_of
claimed_none a t p = rw p

pub dropped_some : (a : ToiAllocator) (flag : Bool) (t i : ℕ) → place (entry_is t flag) (noted a) ≡ Some i → dropped_of flag t a ≡ changed (entry_gone a i)
unfolding dropped_of
dropped_some a flag t i p = rw p

pub dropped_none : (a : ToiAllocator) (flag : Bool) (t : ℕ) → place (entry_is t flag) (noted a) ≡ None → dropped_of flag t a ≡ unchanged a
unfolding dropped_of
dropped_none a flag t p = rw p

pub becomes : (s r : Changed) → r ≡ s → ValidAllocator s.allocator → Becomes s r
becomes s r e v = record { exact = e; valid = subst (λ (x : Changed). ValidAllocator x.allocator) (sym e) v }

-- the search for the next number, where it begins
pub search_start : (a : ToiAllocator) → Searchable a → {n : ℕ} → n ≡ after a.width a.next
    → free_from a.width a.entered (held a) n ≡ next_toi a.width (held a) a.next
unfolding next_toi
search_start a s e =
    let g = s.sized in let r = s.room in
    let l : length (held a) ≡ a.entered = length-map (noted a) (λ (e : Entry). e.toi) ∙ length-take-le a.entered a.entries (omega arith) in
    rw (e, l)

-- an accepted call of allocate, put together from its steps
pub given_by : (a : ToiAllocator) (flag : Bool) (b : ToiAllocator) (n : ℕ) → a.entered < toi_entries → b ≡ noting flag a → n ≡ next_toi b.width (held b) b.next
    → record { answer = Ok a.next; allocator = record { entries = b.entries; entered = b.entered; next = n; width = b.width } } ≡ allocated_of flag a
unfolding allocated_of moved_on
given_by a flag b n h e q = rw (q, e, lt-ltb a.entered toi_entries h)

pub full_by : (a : ToiAllocator) (flag : Bool) → toi_entries ≤ a.entered → record { answer = Err Because.Full; allocator = a } ≡ allocated_of flag a
unfolding allocated_of
full_by a flag h = rw (le-ltb a.entered toi_entries h)

pub gives : (a : ToiAllocator) (flag : Bool) (r : Allocated) → ValidAllocator a → r ≡ allocated_of flag a → Gives flag a r
gives a flag r v e = record { exact = e; valid = subst (λ (x : Allocated). ValidAllocator x.allocator) (sym e) (valid_allocated a v flag) }

-- after noting one more, the entries can be searched
pub searchable : (a : ToiAllocator) (flag : Bool) → ValidAllocator a → a.entered < toi_entries → Searchable (noting flag a)
unfolding noting
searchable a flag v h = record { wide = v.wide; sized = length-set a.entries a.entered _ ∙ v.sized; room = omega arith }

-- what new makes, put together from its steps
pub opened_by : (w : ToiMaxLength) (first width low cut next : ℕ) → width ≡ bits w → low ≡ skip_zero first → cut ≡ low % 2 ^ width → next ≡ skip_zero cut
    → Opened w first (record { entries = replicate toi_entries no_entry; entered = 0; next = next; width = width })
unfolding first_toi cut_to new_allocator
opened_by w first width low cut next e f g h =
    record { exact = made; valid = subst ValidAllocator (sym made) (valid_opening w first) }
  where
    open_toi : next ≡ first_toi (bits w) first
    open_toi = rw (h, g, f, e)

    made : record { entries = replicate toi_entries no_entry; entered = 0; next = next; width = width } ≡ new_allocator (bits w) first
    made = rw (open_toi, e)
