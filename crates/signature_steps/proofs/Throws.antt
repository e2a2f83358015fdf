-- Types behind `throws`, one after the other beside their names.
use Rattle.std.proofs.Common.{◌≡◌, ℕ, ◌+◌, ◌<◌, List, ◌∷◌, length, drop, get_or, map, ap}
use Rattle.je_ast.specs.declared.name.Name.{Name}
use Rattle.je_ast.specs.Types.{name_view}
use Rattle.name_types.specs.declared.types.SrcTy.{SrcTy}
use Rattle.name_types.specs.View.{shown}
use Rattle.source_types.specs.Heads.{ClassHead}
use Rattle.header_typing.specs.Throws.{thrown}
use Rattle.je_typing.specs.declared.fault.Refusal.{Refusal}
use Rattle.je_typing.specs.Answers.{IsFault}
use Rattle.je_typing.specs.Judged.{Judged, gives, bind}
use Rattle.signature_typing.specs.Signatures.{all_thrown}
use Rattle.written_types.proofs.Walking.{walk_on, walk_fails}

module _ (heads : List ClassHead) (ts : List SrcTy) (i : ℕ) (left rest : List Name) (name : Name) (whole : Judged (Unit {0})) (t : SrcTy) (first : left ≡ name ∷ rest)
    (within : i < length ts) (is : t ≡ get_or ts i t) (met : whole ≡ all_thrown heads (map shown (drop i ts)) (map name_view left)) where
  law : (us : List SrcTy) → all_thrown heads (map shown (t ∷ us)) (map name_view left)
      ≡ bind (thrown heads (shown t) (name_view name)) (λ (done : Unit {0}). all_thrown heads (map shown us) (map name_view rest))
  law us = ap (λ (ns : List Name). all_thrown heads (map shown (t ∷ us)) (map name_view ns)) first

  pub throws_on : (done : Unit {0}) → thrown heads (shown t) (name_view name) ≡ gives done → whole ≡ all_thrown heads (map shown (drop (i + 1) ts)) (map name_view rest)
  throws_on done g =
      walk_on (λ (ns : List Name) (us : List SrcTy). all_thrown heads (map shown us) (map name_view ns)) ts i left whole t (thrown heads (shown t) (name_view name)) rest law within is met done g

  pub throws_fail : (r : Refusal) → IsFault (thrown heads (shown t) (name_view name)) r → IsFault whole r
  throws_fail r f =
      walk_fails (λ (ns : List Name) (us : List SrcTy). all_thrown heads (map shown us) (map name_view ns)) ts i left whole t (thrown heads (shown t) (name_view name)) rest law within is met r f
