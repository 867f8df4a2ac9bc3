-- A run needs no third round, and a read no more visits: a transfer that has just begun has a symbol to send.
use mathlib.Core.Path.{◌≡◌, refl, sym, ◌∙◌, ap, subst}
use mathlib.Core.Bool.{Bool, true, false, not, ◌&&◌, ◌||◌, false≢true, true≢false}
use Rattle.std.specs.Prelude.{Option, None, Some}
use mathlib.Core.List.{List, [], ◌∷◌, ◌++◌}
use mathlib.Core.Logic.{inr, ⊎_elim}
use Prim.Native.Nat.{ℕ, zero, suc, ◌+◌, ◌-◌, ◌≤◌, ◌<◌, min}
use native.Mathlib.Omega.{arith}
use lib.Dec.{ltb}
use borrow.Author.Tests.{le-ltb, lt-leb}
use lib.ListN.{length}
use Rattle.sizes.specs.Words.{when◌then◌else◌, maybe, given, at, cut}
use Rattle.sizes.specs.Partition.{sbn, esi, blocks_of, symbols_in}
use Rattle.sizes.specs.declared.partition.Sizes.{Sizes}
use Rattle.sizes.specs.declared.partition.Partition.{Partition}
use Rattle.sizes.proofs.Arithmetic.{below_or}
use Rattle.sizes.proofs.PartitionLaws.{parted, empty_exactly}
use Rattle.sizes.proofs.Tests.{none≢some}
use Rattle.lifecycle.specs.declared.parts.Part.{Part}
use Rattle.lifecycle.specs.Lifecycle.{Target, pace_of, too_early, may_stop, started, is_last}
use Rattle.lifecycle.specs.Fdt.{Instance, Next, next_fdt, fdt_done, FdtState}
use Rattle.definition.specs.Encoder.{Open, Encoder, Symbol, fresh, opened, drained, fill, wrapped, emptied, without, advanced, symbol_of, visit, stopping, read}
use Rattle.definition.specs.FdtSession.{Fdt, FdtTurn, FdtHand, fdt_run, FdtRound, fdt_sent, fdt_begun, fdt_in_hand_or_next, fdt_round_with, fdt_round, last_fdt_round}
use Rattle.definition.specs.Session.{begin, put_back, forced, sent, round_with, idle, Round}
use Rattle.lifecycle.specs.Setup.{Setup}
use Rattle.definition.specs.Promises.{read_longer, VisitsEnough, FirstRead, NoThird, FdtNoThird, fdt_rounds, FdtRoundsEnough, goes_again, fdt_goes_again}
use Rattle.definition.proofs.Runs.{reads}

-- every block of a partition has a symbol
abbrev pub Filled : Partition → Type 0
Filled p = (k : ℕ) → k < p.blocks → 1 ≤ symbols_in p (sbn k)

-- a length of 0 has no block
no_block : (z : Sizes) (l : ℕ) → l ≡ 0 → (blocks_of z l).blocks ≡ 0
no_block z l h = ((empty_exactly z.b l z.e).1 (inr (inr h))).blocks

filled : (z : Sizes) (l : ℕ) → 1 ≤ z.e → 1 ≤ z.b → Filled (blocks_of z l)
filled z l h g k i =
    ⊎_elim
    (λ n. (parted z.b l z.e g h).none_empty n (sbn k))
    (λ n. absurd (omega (arith, no_block z l (omega arith))))
    (below_or 0 l)

none_open : (n i : ℕ) → n ≡ 0 → at (opened 0 n) i ≡ None
none_open zero i e = refl
none_open (suc n) i e = absurd (omega arith)

one_open : (n : ℕ) → 1 ≤ n → at (opened 0 n) 0 ≡ Some record { block = sbn 0; symbol = esi 0 }
one_open zero h = absurd (omega arith)
one_open (suc n) h = refl

-- the first read of a transfer gives a symbol
pub first_read : FirstRead
unfolding read visit stopping fill wrapped emptied drained
first_read w c z b h k g = ⊎_elim full empty (below_or 0 c.size)
  where
    p : Partition
    p = blocks_of z c.size

    x : Encoder
    x = fill w p (stopping false (fresh b))

    result : Option Open → Option Symbol × Encoder
    result o = maybe (emptied c x) (λ o. when drained p o then visit 0 w c z false (without x (wrapped x)) else (let y = advanced x (wrapped x) o in (Some (symbol_of c z false o y), y))) o

    still : wrapped x ≡ 0
    still = elim (ltb 0 (length x.window)) as (λ b. ◌≡◌ {A = ℕ} (when b then 0 else 0) 0) [ true ↦ refl | false ↦ refl ]

    empty : c.size ≤ 0 → given (result (at x.window (wrapped x))).0 ≡ true
    empty n =
        let e : c.size ≡ 0 = omega arith in
        let m = no_block z c.size e in
        subst (λ o. given (result o).0 ≡ true) (sym (none_open (min (w - 0) (p.blocks - 0)) (wrapped x) (omega arith))) (rw e)

    full : 0 < c.size → given (result (at x.window (wrapped x))).0 ≡ true
    full n =
        let m = (parted z.b c.size z.e g k).some_block n in
        subst (λ o. given (result o).0 ≡ true) (sym (ap (at x.window) still ∙ one_open (min (w - 0) (p.blocks - 0)) (omega arith)))
        (rw (lt-leb (symbols_in p (sbn 0)) 0 ((parted z.b c.size z.e g k).none_empty n (sbn 0))))

-- nothing is early at its start
on_time : (g : Target) (now l e : ℕ) → too_early now (pace_of g now l e) ≡ false
unfolding too_early
on_time Target.at_once now l e = refl
on_time (Target.for t) now l e = le-ltb now now (omega arith)
on_time (Target.by t) now l e = le-ltb now now (omega arith)

listed_unforced : (b : Bool) → (b && not true) ≡ false
listed_unforced true = refl
listed_unforced false = refl

-- so an object that has just been taken does not end its transfer
pub no_third : NoThird
unfolding round_with begin forced
no_third s now b q o h k g = go b (too_early now (begin now o).pace) (reads s (begin now o)).0 (on_time o.plan.target now o.part.size o.sizes.e)
    (rw (listed_unforced (may_stop o.plan (started o.plan now o.life))) (first_read s.window o.part o.sizes (is_last o.plan (started o.plan now o.life)) h k g))
  where
    go : (b early : Bool) (y : Option Symbol) → early ≡ false → given y ≡ true
        → goes_again (when b then Round.over (idle q (Some (begin now o))) else when early then Round.over (idle q (Some (begin now o)))
        else elim y [ None ↦ Round.again (put_back now (begin now o) q) | Some y ↦ Round.over (sent q (begin now o) (reads s (begin now o)).1 y) ]) ≡ false
    go true early y a e = refl
    go false true y a e = absurd (true≢false a)
    go false false None a e = absurd (false≢true e)
    go false false (Some y) a e = refl

-- nor does an FDT that has just been asked for
pub fdt_no_third : FdtNoThird
unfolding fdt_round fdt_in_hand_or_next fdt_round_with
fdt_no_third s now draft taken f h k g e = rw e (go n.starts)
  where
    n : Next
    n = next_fdt s now (when taken then None else draft) f.state

    go : (x : Option Instance) → fdt_goes_again (fdt_round_with s now (taken || n.taken) n.state (fdt_begun x)) ≡ false
    go None = refl
    go (Some i) = read_one (read s.window i.part s.sizes false (fresh false)).0 (first_read s.window i.part s.sizes false h k g)
      where
        begun : FdtHand
        begun = record { id = i.id; part = i.part; encoder = fresh false }

        read_one : (y : Option Symbol) → given y ≡ true
            → fdt_goes_again (elim y [ None ↦ FdtRound.again (taken || n.taken) (record { state = fdt_done now n.state; hand = None }) | Some y ↦ FdtRound.over (fdt_sent (taken || n.taken) n.state begun (read s.window i.part s.sizes false (fresh false)).1 y) ]) ≡ false
        read_one None e = absurd (false≢true e)
        read_one (Some y) e = refl

-- a round that is the last comes to the same, whatever would come after
fdt_ended : (r : FdtRound) (k : Bool → Fdt → FdtTurn) → fdt_goes_again r ≡ false → ◌≡◌ {A = FdtTurn} (elim r [ FdtRound.over t ↦ t | FdtRound.again taken f ↦ k taken f ]) (last_fdt_round r)
fdt_ended (FdtRound.over t) k e = refl
fdt_ended (FdtRound.again taken f) k e = absurd (true≢false e)

-- nothing is in hand where the session goes round again
abbrev Released : FdtRound → Type 0
Released (FdtRound.over t) = Unit {0}
Released (FdtRound.again taken f) = f.hand ≡ None

released : (s : Setup) (now : ℕ) (taken : Bool) (f : FdtState) (h : Option FdtHand) → Released (fdt_round_with s now taken f h)
unfolding fdt_round_with
released s now taken f None = tt
released s now taken f (Some h) = go (read s.window h.part s.sizes false h.encoder).0
  where
    go : (y : Option Symbol) → Released (elim y [ None ↦ FdtRound.again taken (record { state = fdt_done now f; hand = None }) | Some y ↦ FdtRound.over (fdt_sent taken f h (read s.window h.part s.sizes false h.encoder).1 y) ])
    go None = refl
    go (Some y) = tt

-- so with more rounds its run comes to the same
pub fdt_rounds_enough : FdtRoundsEnough
unfolding fdt_rounds fdt_run fdt_round
fdt_rounds_enough n s now draft f h k g = go (fdt_round s now draft false f) (let t = fdt_in_hand_or_next s now draft false f in released s now t.0 t.1.state t.1.hand)
  where
    go : (r : FdtRound) → Released r
        → ◌≡◌ {A = FdtTurn} (elim r [ FdtRound.over t ↦ t | FdtRound.again taken f' ↦ fdt_rounds (suc n) s now draft taken f' ])
        (elim r [ FdtRound.over t ↦ t | FdtRound.again taken f' ↦ last_fdt_round (fdt_round s now draft taken f') ])
    go (FdtRound.over t) e = refl
    go (FdtRound.again taken f') e = fdt_ended (fdt_round s now draft taken f') (fdt_rounds n s now draft) (fdt_no_third s now draft taken f' h k g e)

-- how many open blocks are drained
module _ (p : Partition) where
  pub spent : List Open → ℕ
  spent [] = 0
  spent (o ∷ l) = (when drained p o then 1 else 0) + spent l

  spent_append : (a b : List Open) → spent (a ++ b) ≡ spent a + spent b
  unfolding spent
  spent_append [] b = omega arith
  spent_append (o ∷ a) b = let h = spent_append a b in omega arith

  spent_le : (l : List Open) → spent l ≤ length l
  unfolding spent
  spent_le [] = omega arith
  spent_le (o ∷ l) = let h = spent_le l in elim (drained p o) as (λ b. (when b then 1 else 0) + spent l ≤ suc (length l)) [ true ↦ omega arith | false ↦ omega arith ]

  spent_cut : (l : List Open) (i : ℕ) (o : Open) → at l i ≡ Some o → drained p o ≡ true → spent l ≡ suc (spent (cut l i))
  unfolding spent
  spent_cut [] i o e h = absurd (none≢some e)
  spent_cut (x ∷ l) zero o e h = let z : x ≡ o = cc in let y : drained p x ≡ true = ap (drained p) z ∙ h in rw y (omega arith)
  spent_cut (x ∷ l) (suc i) o e h = let z = spent_cut l i o e h in omega arith

  module _ (f : Filled p) where
    spent_opened : (k n : ℕ) → n ≤ p.blocks - k → spent (opened k n) ≡ 0
    unfolding spent drained
    spent_opened k zero h = refl
    spent_opened k (suc n) h = let z = spent_opened (suc k) n (omega arith) in rw (lt-leb (symbols_in p (sbn k)) 0 (f k (omega arith))) (omega arith)

    spent_fill : (w : ℕ) (x : Encoder) → spent (fill w p x).window ≡ spent x.window
    unfolding fill
    spent_fill w x =
        let n = min (w - length x.window) (p.blocks - x.next.0) in
        let a = spent_append x.window (opened x.next.0 n) in let b = spent_opened x.next.0 n (omega arith) in omega arith

-- so many visits are enough: one more than there are drained blocks
module _ (w : ℕ) (c : Part) (z : Sizes) (force : Bool) (f : Filled (blocks_of z c.size)) where
  pub left : Encoder → ℕ
  left x = spent (blocks_of z c.size) x.window

  turn : Encoder → Option Symbol × Encoder → Option Open → Option Symbol × Encoder
  turn y again o = maybe (emptied c y) (λ o. when drained (blocks_of z c.size) o then again else (let y' = advanced y (wrapped y) o in (Some (symbol_of c z force o y'), y'))) o

  one_turn : (k : ℕ) (x : Encoder) → visit (suc k) w c z force x
      ≡ turn (fill w (blocks_of z c.size) x) (visit k w c z force (without (fill w (blocks_of z c.size) x) (wrapped (fill w (blocks_of z c.size) x)))) (at (fill w (blocks_of z c.size) x).window (wrapped (fill w (blocks_of z c.size) x)))
  unfolding visit turn
  one_turn k x = refl

  fewer_left : (x : Encoder) (o : Open) → at (fill w (blocks_of z c.size) x).window (wrapped (fill w (blocks_of z c.size) x)) ≡ Some o → drained (blocks_of z c.size) o ≡ true
      → left x ≡ suc (left (without (fill w (blocks_of z c.size) x) (wrapped (fill w (blocks_of z c.size) x))))
  unfolding left without
  fewer_left x o e h = sym (spent_fill (blocks_of z c.size) f w x) ∙ spent_cut (blocks_of z c.size) (fill w (blocks_of z c.size) x).window (wrapped (fill w (blocks_of z c.size) x)) o e h

  same_turn : (y : Encoder) (A B : Option Symbol × Encoder) (o : Option Open) → ((v : Open) → o ≡ Some v → drained (blocks_of z c.size) v ≡ true → A ≡ B) → turn y A o ≡ turn y B o
  unfolding turn
  same_turn y A B None h = refl
  same_turn y A B (Some v) h = (elim (drained (blocks_of z c.size) v) as (λ b. drained (blocks_of z c.size) v ≡ b
      → (when b then A else (let y' = advanced y (wrapped y) v in (Some (symbol_of c z force v y'), y')))
      ≡ (when b then B else (let y' = advanced y (wrapped y) v in (Some (symbol_of c z force v y'), y'))))
      [ true ↦ λ e. h v refl e | false ↦ λ e. refl ]) refl

  -- however many more are allowed, the outcome is the same
  pub enough : (k n : ℕ) (x : Encoder) → left x ≤ k → left x ≤ n → visit (suc k) w c z force x ≡ visit (suc n) w c z force x
  enough zero n x h g = one_turn zero x ∙ same_turn (fill w (blocks_of z c.size) x) _ _ _ (λ o e d. absurd (let y = fewer_left x o e d in omega arith)) ∙ sym (one_turn n x)
  enough (suc k) zero x h g = one_turn (suc k) x ∙ same_turn (fill w (blocks_of z c.size) x) _ _ _ (λ o e d. absurd (let y = fewer_left x o e d in omega arith)) ∙ sym (one_turn zero x)
  enough (suc k) (suc n) x h g = one_turn (suc k) x
      ∙ same_turn (fill w (blocks_of z c.size) x) _ _ _ (λ o e d. (let y = fewer_left x o e d in
      enough k n (without (fill w (blocks_of z c.size) x) (wrapped (fill w (blocks_of z c.size) x))) (omega arith) (omega arith)))
      ∙ sym (one_turn (suc n) x)

  pub turns_enough : (n : ℕ) (x : Encoder) → length x.window ≤ n → visit (suc n) w c z force x ≡ visit (suc (length x.window)) w c z force x
  unfolding left
  turns_enough n x h = let a = spent_le (blocks_of z c.size) x.window in enough n (length x.window) x (omega arith) (omega arith)

-- so with more visits a read comes to the same
pub visits_enough : VisitsEnough
unfolding read_longer read stopping
visits_enough n w c z force x h g = elim x.stopped
    as (λ b. (when b then (None, x) else visit (suc (length x.window + n)) w c z force (stopping force x)) ≡ (when b then (None, x) else visit (suc (length x.window)) w c z force (stopping force x)))
    [ true ↦ refl | false ↦ turns_enough w c z force (filled z c.size h g) (length x.window + n) (stopping force x) (omega arith) ]
