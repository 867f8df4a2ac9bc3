-- The sender, and what the host names and is told, as data that a lent call passes.
-- Assumes `Logic`.
use mathlib.Core.Path.{refl}
use seplogic.Ra.Ura.{Ura}
use mir.Syntax.{w32}
use types.Logic.{Logic}
use denote.Laws.{Copy}
use denote.Opens.{Opens}
use denote.Builtin.{u32, bool}
use denote.Struct.Laws as LL
use Rattle.sender.specs.contracts.sender.Sender as T
use Rattle.sender.proofs.sender.Sender.TheLaws as T'
use Rattle.sender.specs.contracts.block.Open as B
use Rattle.sender.proofs.block.Open.TheLaws as B'
use Rattle.sender.specs.contracts.sendersession.SenderSession as X
use Rattle.sender.proofs.sendersession.SenderSession.TheLaws as X'
use Rattle.lifecycle.specs.contracts.slots.Slot as Y
use Rattle.lifecycle.proofs.slots.Slot.TheLaws as Y'
use Rattle.host_structs.specs.contracts.answers.Numbered as N
use Rattle.host_structs.proofs.answers.Numbered.TheLaws as N'
use Rattle.host_structs.specs.contracts.answers.Sent as S
use Rattle.host_structs.proofs.answers.Sent.TheLaws as S'
use Rattle.host_structs.specs.contracts.answers.Counted as Q
use Rattle.host_structs.proofs.answers.Counted.TheLaws as Q'
use Rattle.host_structs.specs.contracts.inputs.PlainObject as O
use Rattle.host_structs.proofs.inputs.PlainObject.TheLaws as O'
use Rattle.host_structs.specs.contracts.inputs.PlainSetup as Z
use Rattle.host_structs.proofs.inputs.PlainSetup.TheLaws as Z'
use Rattle.lifecycle.specs.contracts.filedesc.Time as I
use Rattle.lifecycle.proofs.filedesc.Time.TheLaws as I'
use Rattle.lifecycle.specs.contracts.parts.Part as C
use Rattle.lifecycle.proofs.parts.Part.TheLaws as C'
use Rattle.lending.proofs.Whole.{Data, struct_data, uint_data, bool_data}

module _ {M : Type 1} {𝓤 : Ura M} (𝓛 : Logic 𝓤) where
  abbrev pub sender : Data 𝓛 T.the_row
  sender = struct_data 𝓛 T.the_type T'.the_laws T'.the_plain (λ x. tt) (λ x w. refl)

  abbrev pub session : Data 𝓛 X.the_row
  session = struct_data 𝓛 X.the_type X'.the_laws X'.the_plain (λ x. tt) (λ x w. refl)

  abbrev pub block : Data 𝓛 B.the_row
  block = struct_data 𝓛 B.the_type B'.the_laws B'.the_plain (λ x. tt) (λ x w. refl)

  abbrev pub slot : Data 𝓛 Y.the_row
  slot = struct_data 𝓛 Y.the_type Y'.the_laws Y'.the_plain (λ x. tt) (λ x w. refl)

  abbrev pub numbered : Data 𝓛 N.the_row
  numbered = struct_data 𝓛 N.the_type N'.the_laws N'.the_plain (λ x. tt) (λ x w. refl)

  abbrev pub sent : Data 𝓛 S.the_row
  sent = struct_data 𝓛 S.the_type S'.the_laws S'.the_plain (λ x. tt) (λ x w. refl)

  abbrev pub counted : Data 𝓛 Q.the_row
  counted = struct_data 𝓛 Q.the_type Q'.the_laws Q'.the_plain (λ x. tt) (λ x w. refl)

  abbrev pub object : Data 𝓛 O.the_row
  object = struct_data 𝓛 O.the_type O'.the_laws O'.the_plain (λ x. tt) (λ x w. refl)

  abbrev pub setup : Data 𝓛 Z.the_row
  setup = struct_data 𝓛 Z.the_type Z'.the_laws Z'.the_plain (λ x. tt) (λ x w. refl)

  abbrev pub time : Data 𝓛 I.the_row
  time = struct_data 𝓛 I.the_type I'.the_laws I'.the_plain (λ x. tt) (λ x w. refl)

  abbrev pub part : Data 𝓛 C.the_row
  part = struct_data 𝓛 C.the_type C'.the_laws C'.the_plain (λ x. tt) (λ x w. refl)

  pub sender_copy : Copy 𝓛 T.the_row
  sender_copy = LL.copy T.the_type T'.the_copy 𝓛

  -- a `&` to it is read through
  pub sender_opens : Opens 𝓛 T.the_row
  sender_opens = (LL.copied T.the_type T'.the_copy 𝓛).opens

  abbrev pub refusal : Data 𝓛 u32
  refusal = uint_data 𝓛 w32

  abbrev pub truth : Data 𝓛 bool
  truth = bool_data 𝓛
