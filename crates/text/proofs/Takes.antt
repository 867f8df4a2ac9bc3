-- Laws on the words of a line, one after another.
use mathlib.Core.Path.{◌≡◌, refl}
use mathlib.Core.List.{List}
use Prim.Native.Nat.{ℕ}
use native.Mathlib.Omega.{arith}
use Rattle.std.specs.Prelude.{Some, None, Ok, Err}
use Rattle.text.specs.Bytes.{part}
use Rattle.text.specs.Words.{NextWord}
use Rattle.text.specs.Numbers.{NextNumber}
use Rattle.text.specs.Line.{word_bytes, word_end, TakesWord, field_value, field_end, TakesNumber}
use Rattle.text.specs.declared.word.Word.{Word}
use Rattle.text.specs.declared.number.Field.{Field}
use Rattle.text.specs.declared.number.FieldError.{FieldError}
use Rattle.text.specs.declared.words.Words.{Words}

-- a word is there, or none is
module _ (was : Words) where
  pub word_there : (w : Word) (b : List ℕ) → b ≡ part w.start w.end was.line.now → NextWord was.line.now was.at (Some w)
      → TakesWord was (Some b) (record { line = was.line; at = w.end })
  unfolding word_bytes word_end
  word_there w b e n =
      let i = n.inside w refl in
      record { line = refl; word = rw (← n.exact, e); at = rw (← n.exact); inside = λ x h. (omega arith, i.2) }

  pub word_missing : NextWord was.line.now was.at None → TakesWord was None was
  unfolding word_bytes word_end
  word_missing n = record { line = refl; word = rw (← n.exact); at = rw (← n.exact); inside = λ x h. cc }

-- a number is there, or none is
module _ (was : Words) where
  pub number_there : (f : Field) → NextNumber was.line.now was.at (Ok f) → TakesNumber was (Ok f.value) (record { line = was.line; at = f.next })
  unfolding field_value field_end
  number_there f n =
      let i = n.inside f refl in
      record { line = refl; value = rw (← n.exact); at = rw (← n.exact); inside = λ x h. i }

  pub number_missing : (e : FieldError) → NextNumber was.line.now was.at (Err e) → TakesNumber was (Err e) was
  unfolding field_value field_end
  number_missing e n = record { line = refl; value = rw (← n.exact); at = rw (← n.exact); inside = λ x h. cc }
