use mathlib.Core.Path.{sym, ◌∙◌, ap, subst}
use borrow.Author.Tests.{eq-eqb, ne_eqb}
use Rattle.std.specs.Prelude.{Some}
use Rattle.sender.specs.EncoderCalls.{Read, Reads, ready_of, stopping_of, visit_of, moved_of, emptied_of}
use Rattle.sender.specs.declared.blockencoder.BlockEncoder.{BlockEncoder}
use Rattle.sender.specs.declared.blockencoder.Visit.{Visit}
use Rattle.sender.proofs.EncoderReads.{emitted_none, emitted_some, read_means, read_ended, read_goes}
use Rattle.sender.proofs.blockencoder.BlockEncoder.read.Goals as goal

pub returns-then-self : goal.returns-then-self
returns-then-self c =
    let x = c.args.self.now in
    subst (Reads c.args.force x) (read_ended c.args.force x c.if-self.true) (read_means c.args.force x c.requires)

pub returns-then-self-eq0 : goal.returns-then-self-eq0
returns-then-self-eq0 c =
    let f = c.args.force in
    let x = c.args.self.now in
    let e = c.make_ready.ensures in
    let n = emitted_none f (ready_of (stopping_of f x)) (eq-eqb _ _ (ap (λ y. y.filled) (sym e) ∙ c.if-self-eq0.true)) in
    subst (Reads f x) (read_goes f x c.if-self.false ∙ n ∙ ap emptied_of (sym e) ∙ c.read_empty.ensures) (read_means f x c.requires)

pub returns : goal.returns
returns c =
    let f = c.args.force in
    let x = c.args.self.now in
    let e = c.make_ready.ensures in
    let y = c.make_ready.new.self in
    let w = c.visit-v.result in
    let m = emitted_some f (ready_of (stopping_of f x)) (ne_eqb _ _ (λ z. c.if-self-eq0.false (ap (λ y. y.filled) e ∙ z))) in
    let r : BlockEncoder → Visit → Read = λ y w. record { answer = Some w.symbol; encoder = moved_of y w } in
    let t : BlockEncoder → Read = λ z. record { answer = Some w.symbol; encoder = z } in
    subst (Reads f x)
    (read_goes f x c.if-self.false ∙ m ∙ ap (λ y. r y (visit_of f y)) (sym e) ∙ ap (r y) (sym c.visit-v.ensures) ∙ ap t (sym c.move_on.ensures))
    (read_means f x c.requires)
