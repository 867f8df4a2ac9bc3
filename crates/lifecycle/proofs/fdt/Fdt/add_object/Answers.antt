use mathlib.Core.Path.{sym, ◌∙◌, ap}
use Rattle.lifecycle.proofs.FdtLaws.{added_complete, added_sizes, added_part, added_numbered}
use Rattle.lifecycle.specs.FdtCalls.{numbered_of}
use Rattle.lifecycle.specs.Setup.{bad_blocks}
use Rattle.lifecycle.proofs.fdt.Fdt.add_object.Goals as goal

pub returns-then-self : goal.returns-then-self
returns-then-self c = added_complete c.args.self.now c.args.q c.args.named c.if-self.true

pub returns-then-are_bad_blocks : goal.returns-then-are_bad_blocks
returns-then-are_bad_blocks c =
    let b = sym (ap (λ z. bad_blocks z c.args.q.part.size) c.own_sizes-z.ensures) ∙ sym c.are_bad_blocks.ensures ∙ c.if-are_bad_blocks.true in
    added_sizes c.args.self.now c.args.q c.args.named c.if-self.false b

pub returns-then-is_bad_part : goal.returns-then-is_bad_part
returns-then-is_bad_part c =
    let b = sym (ap (λ z. bad_blocks z c.args.q.part.size) c.own_sizes-z.ensures) ∙ sym c.are_bad_blocks.ensures ∙ c.if-are_bad_blocks.false in
    added_part c.args.self.now c.args.q c.args.named c.if-self.false b (sym c.is_bad_part.ensures ∙ c.if-is_bad_part.true)

pub returns-in-Some : goal.returns-in-Some
unfolding numbered_of
returns-in-Some c =
    let b = sym (ap (λ z. bad_blocks z c.args.q.part.size) c.own_sizes-z.ensures) ∙ sym c.are_bad_blocks.ensures ∙ c.if-are_bad_blocks.false in
    let n = added_numbered c.args.self.now c.args.q c.args.named c.if-self.false b (sym c.is_bad_part.ensures ∙ c.if-is_bad_part.false) in
    n ∙ rw (c.in-Some.is, ← c.own_sizes-z.ensures) c.add_named.ensures

pub returns-in-None : goal.returns-in-None
unfolding numbered_of
returns-in-None c =
    let b = sym (ap (λ z. bad_blocks z c.args.q.part.size) c.own_sizes-z.ensures) ∙ sym c.are_bad_blocks.ensures ∙ c.if-are_bad_blocks.false in
    let n = added_numbered c.args.self.now c.args.q c.args.named c.if-self.false b (sym c.is_bad_part.ensures ∙ c.if-is_bad_part.false) in
    n ∙ rw (c.in-None.is, ← c.own_sizes-z.ensures) c.add_fresh.ensures
