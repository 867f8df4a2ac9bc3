-- The examples of specs/Sheet, computed: the bench sheet, four transfers and two runs of the whole desk. The first file to be checked, so that a wrong definition is refused by an example where one shows it.
use mathlib.Core.Path.{refl}
use Rattle.definition.specs.Sheet.{parts, len, Table, line_of, drained_lines, drain, Drains, Plays, first_run, long_run}
use Rattle.definition.proofs.Opened.{opened_life, opened_encoder, opened_desk}

pub table : Table
unfolding parts len opened_life
table = record {
  p1 = refl;
  p2 = refl;
  p3 = refl;
  p3_0 = refl;
  p3_1 = refl;
  p3_2 = refl;
  p3_3 = refl;
  p4 = refl;
  p4_0 = refl;
  p5 = refl;
  p6 = refl;
  p7 = refl;
  p8 = refl;
  p8' = refl;
  p9 = refl;
  p9' = refl;
  p10 = refl;
  p10' = refl;
  p11 = refl;
  wide = refl;
}

pub drains : Drains
unfolding drain drained_lines line_of opened_encoder
drains = record { two_open = refl; three_open = refl; unequal = refl; empty_object = refl }

pub first_plays : Plays first_run
unfolding Plays first_run opened_desk
first_plays = refl

pub long_plays : Plays long_run
unfolding Plays long_run opened_desk
long_plays = refl
