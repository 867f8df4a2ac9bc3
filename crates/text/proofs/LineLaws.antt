-- Laws on lines and on a buffer that is filled again.
use mathlib.Core.Path.{◌≡◌, refl, sym, ap, ◌∙◌}
use mathlib.Core.List.{List, [], ◌∷◌}
use mathlib.Core.Bool.{Bool, true, false, cond}
use mathlib.Core.Logic.{inl, inr, ⊎_elim}
use Prim.Native.Nat.{ℕ, ◌+◌, ◌-◌, ◌<◌, ◌≤◌, zero-le}
use native.Mathlib.Nat.{sub-zero}
use native.Mathlib.Omega.{arith}
use borrow.Author.Tests.{eqb-false}
use lib.Dec.{eqb}
use lib.ListN.{length, take, drop, length-take}
use lib.Seq.{take-take, take-length, length-take-le}
use Rattle.text.specs.Bytes.{in_line, pass, part}
use Rattle.text.specs.Lines.{StartsWith, Added, Refilled, Pending, LineRead, TakenLine, NoLine}
use Rattle.text.specs.declared.line.Input.{Input}
use Rattle.text.proofs.Lists.{bool_cases, pass_from, pass_within, lt_or_le, part_in, part_none, part_length}

pub starts_cut : (p l : List ℕ) (n : ℕ) → length p ≤ n → StartsWith p l → StartsWith p (take n l)
starts_cut p l n h e = take-take (length p) n l h ∙ e

pub starts_self : (p : List ℕ) → StartsWith p p
starts_self p = take-length p

starts_length : (p l : List ℕ) → StartsWith p l → length p ≤ length l
starts_length p l e = omega (arith, length-take (length p) l, ap length e)

pub starts_trans : (p q l : List ℕ) → StartsWith p q → StartsWith q l → StartsWith p l
starts_trans p q l e f = sym (take-take (length p) (length q) l (starts_length p q e)) ∙ ap (take (length p)) f ∙ e

-- where nothing is pending, a read from the front on fills the buffer again
pub refilled_none : (before : List ℕ) (from to : ℕ) (after : List ℕ) (n : ℕ) → part from to before ≡ [] → Added before 0 after n → Refilled before from to after n
refilled_none before from to after n e a = record { size = a.size; more = rw e zero-le; within = a.within; front = rw e }

-- what is pending is moved to the front, and a read fills what is left
pub refilled_moved : (before : List ℕ) (from to : ℕ) (moved after : List ℕ) (n : ℕ) → from ≤ to → to ≤ length before
    → length moved ≡ length before → take (to - from) moved ≡ take (to - from) (drop from before) → Added moved (to - from) after n → Refilled before from to after n
refilled_moved before from to moved after n h k l e a =
    record {
      size = a.size ∙ l;
      more = rw (part_length from to before h k) a.more;
      within = a.within;
      front = starts_cut _ after n (rw (part_length from to before h k) a.more) (rw (part_length from to before h k, part_in from to before h k) (a.front ∙ e));
    }

-- after a refill what is filled starts with what was pending, and so with what that started with
pub starts_refilled : (p before : List ℕ) (from to : ℕ) (after : List ℕ) (n : ℕ) → StartsWith p (part from to before) → Refilled before from to after n → StartsWith p (part 0 n after)
starts_refilled p before from to after n e r =
    rw (part_in 0 n after zero-le r.within, sub-zero n) (starts_trans p (part from to before) (take n after) e r.front)

-- nothing starts with a byte where there is none
starts_nothing : (p : List ℕ) → StartsWith p [] → p ≡ []
starts_nothing [] e = refl
starts_nothing (x ∷ p) e = cc

empty : (l : List ℕ) → length l ≡ 0 → l ≡ []
empty [] e = refl
empty (x ∷ l) e = absurd (omega arith)

line_within : (s : List ℕ) (from to : ℕ) → from ≤ to → to ≤ length s → (from ≤ pass in_line (take to s) from) × (pass in_line (take to s) from ≤ to)
line_within s from to h k =
    let b = length-take-le to s k in (pass_from in_line (take to s) from, omega (arith, pass_within in_line (take to s) from (rw b h)))

-- of what is read the first line is taken, or there is none
module _ (p before : List ℕ) (ended : Bool) (after : List ℕ) (end : ℕ) (at : Input) (r : LineRead p before ended after end at) where
  pub line_taken : (at.from ≡ at.to → ⊥) → (next : ℕ) → (end < at.to → next ≡ end + 1) → (at.to ≤ end → next ≡ end)
      → TakenLine p before ended after (record { start = at.from; end = end }) (record at { from = next })
  line_taken ne next e f =
      let w = line_within after at.from at.to r.pending.order r.pending.within in
      record {
        size = r.pending.size;
        start_end = omega (arith, w, r.exact);
        end_next = ⊎_elim (λ (h : end < at.to). omega (arith, e h)) (λ (h : at.to ≤ end). omega (arith, f h)) (lt_or_le end at.to);
        next_to = ⊎_elim (λ (h : end < at.to). omega (arith, e h)) (λ (h : at.to ≤ end). omega (arith, f h, w, r.exact)) (lt_or_le end at.to);
        within = r.pending.within;
        some = omega (arith, ne, r.pending.order);
        exact = r.exact;
        next = ⊎_elim (λ (h : end < at.to). omega (arith, e h)) (λ (h : at.to ≤ end). omega (arith, f h, w, r.exact)) (lt_or_le end at.to);
        kept = r.pending.kept;
        whole = r.whole;
        stays = r.pending.stays;
      }

  pub none_taken : at.from ≡ at.to → NoLine p before ended after at
  none_taken e =
      let w = line_within after at.from at.to r.pending.order r.pending.within in
      let none = empty (part at.from at.to after) (omega (arith, part_length at.from at.to after r.pending.order r.pending.within)) in
      record {
        size = r.pending.size;
        within = r.pending.within;
        was = starts_nothing p (rw none at r.pending.kept);
        nothing = e;
        whole =
            ⊎_elim (λ (h : at.ended ≡ true). inl h) (λ (h : at.to - at.from ≡ length after). inr (omega arith))
            (r.whole (omega (arith, w, r.exact)));
        stays = λ h. (r.pending.stays h).0;
      }

-- nothing is read yet
pub pending_first : (before : List ℕ) (at : Input) → at.from ≤ at.to → at.to ≤ length before → Pending (part at.from at.to before) before at.ended before at
pending_first before at h k = record { size = refl; order = h; within = k; kept = starts_self _; stays = λ t. (t, refl) }

-- from..to is no part of the buffer, and so nothing is pending
pub pending_none : (before : List ℕ) (from to : ℕ) (ended : Bool) → part from to before ≡ []
    → Pending (part from to before) before ended before (record { from = 0; to = 0; ended = ended })
pending_none before from to ended e =
    rw e (record { size = refl; order = zero-le; within = zero-le; kept = refl; stays = λ t. (t, part_none before) })

-- one read more, where nothing has ended the input
pub pending_more : (p before : List ℕ) (ended : Bool) (buf after : List ℕ) (at now : Input) → Pending p before ended buf at → at.ended ≡ false
    → Refilled buf at.from at.to after now.to → now.from ≡ 0 → Pending p before ended after now
pending_more p before ended buf after at now r f m z =
    record {
      size = m.size ∙ r.size;
      order = omega (arith, z);
      within = m.within;
      kept = rw z (starts_refilled p buf at.from at.to after now.to r.kept m);
      stays = λ t. let e = (r.stays t).0 in cc;
    }

-- .. and there is less to come: nothing, or less room
pub less_room : (buf after : List ℕ) (at : Input) (n : ℕ) → at.ended ≡ false → at.from ≤ at.to → at.to ≤ length buf
    → at.to - at.from < length buf → Refilled buf at.from at.to after n
    → cond (eqb n (at.to - at.from)) 0 (length after - (n - 0) + 1) < cond at.ended 0 (length buf - (at.to - at.from) + 1)
less_room buf after at n e h k l m =
    let more : at.to - at.from ≤ n = omega (arith, m.more, part_length at.from at.to buf h k) in
    rw e
    (⊎_elim (λ (t : eqb n (at.to - at.from) ≡ true). rw t (omega arith))
    (λ (t : eqb n (at.to - at.from) ≡ false). let ne = eqb-false n (at.to - at.from) t in rw t (omega (arith, m.size, m.within)))
    (bool_cases (eqb n (at.to - at.from))))
