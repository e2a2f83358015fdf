-- Why a file has no tokens.
use Rattle.std.proofs.Common.{◌≡◌, ℕ, List, length, refl}
use Rattle.je_decode.specs.Decoding.{Decodes}
use Rattle.je_decode.specs.declared.character.Character.{Character}
use Rattle.je_lexer.specs.Lexing.{HasFault, IsUnlexed}
use Rattle.je_lexer.specs.declared.fault.FaultKind.{FaultKind}
use Rattle.je_lexer.specs.declared.fault.LexFault.{LexFault}
use Rattle.je_lexer.specs.declared.fault.LexFault.TheVariants as refusal
use Rattle.je_lexer.specs.way.Reading.{IsNoWhole}

pub refused : (r : LexFault) (file : ℕ) (bytes : List ℕ) (kind : FaultKind) (start end : ℕ) → r ≡ refusal.At kind (record { file = file; start = start; end = end }) →
    HasFault bytes kind start end → IsUnlexed file bytes r
refused r file bytes kind start end is fault = rw is (refl, fault)

pub whole_fails : (e : LexFault) (file file_end : ℕ) (bytes : List ℕ) (characters : List Character) → file_end ≡ length bytes → Decodes bytes characters →
    IsNoWhole file file_end characters e → IsUnlexed file bytes e
whole_fails refusal.Memory file file_end bytes characters ends decoded h = tt
whole_fails (refusal.At kind span) file file_end bytes characters ends decoded h = (h.0, HasFault.no_element characters decoded (rw ends at h.1))
