use mathlib.Core.Path.{sym, ◌∙◌, ap}
use Rattle.lifecycle.proofs.FdtLaws.{sends_held, sends_room, done_past, done_still, done_unlisted, done_expired, done_back}
use Rattle.lifecycle.specs.Lifecycle.{expired}
use Rattle.lifecycle.specs.FileDesc.{plan_of, life_of}
use Rattle.lifecycle.specs.declared.filedesc.FileDesc.{FileDesc}
use Rattle.lifecycle.proofs.fdt.Fdt.transfer_done.Goals.{then-k-ge-OBJECT_SLOTS-via-then-k-ge-OBJECT_SLOTS, then-k-ge-OBJECT_SLOTS-via-else-k-ge-OBJECT_SLOTS+then-not-self-k, else-self-k-via-then-self-k+else-not-is_expired, else-self-k-via-else-self-k}
use Rattle.lifecycle.proofs.fdt.Fdt.transfer_done.Goals as goal

pub returns-then-k-ge-OBJECT_SLOTS : goal.returns-then-k-ge-OBJECT_SLOTS
returns-then-k-ge-OBJECT_SLOTS c = elim c.then-k-ge-OBJECT_SLOTS.branch [
  | then-k-ge-OBJECT_SLOTS-via-then-k-ge-OBJECT_SLOTS w ↦ sym (done_past c.args.now c.args.k c.args.self.now c.requires w.if-k-ge-OBJECT_SLOTS.true)
  | then-k-ge-OBJECT_SLOTS-via-else-k-ge-OBJECT_SLOTS+then-not-self-k w ↦ sym (done_still c.args.now c.args.k c.args.self.now w.if-not-self-k.true)
]

pub put_back-requires : goal.put_back-requires
put_back-requires c =
    let h = c.if-k-ge-OBJECT_SLOTS.false in
    let e = c.if-not-self-k.false in
    (c.requires, h, sends_room c.args.self.now c.requires c.args.k h e, sends_held c.args.self.now c.requires c.args.k e)

pub returns-then-not-is_expired : goal.returns-then-not-is_expired
returns-then-not-is_expired c =
    let x = sym (ap (λ (d : FileDesc). expired (plan_of d.plan) (life_of d.life)) c.transfer_done.ensures) ∙ sym c.is_expired.ensures ∙ c.if-not-is_expired.true in
    c.put_back.ensures ∙ sym (done_back c.args.now c.args.k c.args.self.now c.if-not-self-k.false c.if-self-k.true x)

pub returns-else-self-k : goal.returns-else-self-k
returns-else-self-k c = elim c.else-self-k.branch [
  | else-self-k-via-then-self-k+else-not-is_expired w ↦ (
      let x = sym (ap (λ (d : FileDesc). expired (plan_of d.plan) (life_of d.life)) c.transfer_done.ensures) ∙ sym w.is_expired.ensures ∙ w.if-not-is_expired.false in
      c.let_go.ensures ∙ sym (done_expired c.args.now c.args.k c.args.self.now c.if-not-self-k.false w.if-self-k.true x))
  | else-self-k-via-else-self-k w ↦ c.let_go.ensures ∙ sym (done_unlisted c.args.now c.args.k c.args.self.now c.if-not-self-k.false w.if-self-k.false)
]
