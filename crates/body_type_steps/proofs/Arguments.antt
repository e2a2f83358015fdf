-- Type arguments that are typed one after the other.
use Rattle.std.proofs.Common.{◌≡◌, ℕ, suc, ◌+◌, ◌<◌, ◌≤◌, List, [], ◌∷◌, ◌++◌, length, map, drop, get_or, refl, sym, ap, ◌∙◌, add-one, drop-cons}
use Rattle.std.proofs.Math.ListN.{drop_of_length-le}
use Rattle.std.proofs.lemmas.List.{map-append}
use Rattle.je_ast.specs.declared.ty_name.TyName.{TyName}
use Rattle.je_ast.specs.Types.{type_view, type_views_of}
use Rattle.je_scopes.specs.SourceTypes.{SourceType, SourceTypes, more_source_types, no_source_types, source_types}
use Rattle.je_typing.specs.declared.fault.Refusal.{Refusal}
use Rattle.je_typing.specs.Answers.{IsFault}
use Rattle.je_typing.specs.Judged.{Judged, gives, faulty, bind}
use Rattle.je_typing.proofs.Walks.{bind_gives, bind_faults}
use Rattle.name_typing.specs.Program.{Frame, Program}
use Rattle.name_types.specs.declared.types.SrcTy.{SrcTy}
use Rattle.name_types.specs.View.{all_shown, shown}
use Rattle.written_types.proofs.Walking.{fault_of}
use Rattle.body_types.specs.BodyTypes.{body_type, body_types}

-- types with others before them
abbrev behind : List SourceType → SourceTypes → SourceTypes
behind [] us = us
behind (t ∷ ts) us = more_source_types t (behind ts us)

-- what comes to types with others before them
abbrev pub gathered : List SourceType → Judged SourceTypes → Judged SourceTypes
gathered ts m = bind m (λ us. gives (behind ts us))

pub none_yet : (m : Judged SourceTypes) → m ≡ gathered [] m
unfolding bind
none_yet (gives us) = refl
none_yet (faulty f) = refl

all-behind : (ts : List SourceType) → behind ts no_source_types ≡ source_types ts
all-behind [] = refl
all-behind (t ∷ ts) = ap (more_source_types t) (all-behind ts)

one-more : (ts : List SourceType) (u : SourceType) (us : SourceTypes) → behind ts (more_source_types u us) ≡ behind (ts ++ u ∷ []) us
one-more [] u us = refl
one-more (t ∷ ts) u us = ap (more_source_types t) (one-more ts u us)

gathered-more : (ts : List SourceType) (u : SourceType) (m : Judged SourceTypes) → gathered ts (bind m (λ us. gives (more_source_types u us))) ≡ gathered (ts ++ u ∷ []) m
unfolding bind
gathered-more ts u (gives us) = ap gives (one-more ts u us)
gathered-more ts u (faulty f) = refl

module _ (p : Program) (here : Frame) (args : List TyName) (i : ℕ) (ts : List SrcTy) (whole : Judged SourceTypes)
    (met : whole ≡ gathered (map shown ts) (body_types p here (type_views_of (drop i args)))) where
  module _ (t : TyName) (within : i < length args) (is : t ≡ get_or args i t) where
    abbrev rest : Judged SourceTypes
    rest = body_types p here (type_views_of (drop (i + 1) args))

    left : drop i args ≡ t ∷ drop (i + 1) args
    left = rw (add-one, drop-cons args i t) (ap (λ (k : TyName). k ∷ drop (suc i) args) (sym is))

    come : whole ≡ gathered (map shown ts) (bind (body_type p here (type_view t)) (λ u. bind rest (λ us. gives (more_source_types u us))))
    come = met ∙ ap (λ ks. gathered (map shown ts) (body_types p here (type_views_of ks))) left

    pub argument_on : (u : SrcTy) (us : List SrcTy) → us ≡ ts ++ u ∷ [] → body_type p here (type_view t) ≡ gives (shown u)
        → whole ≡ gathered (map shown us) (body_types p here (type_views_of (drop (i + 1) args)))
    argument_on u us e g =
        come ∙ ap (gathered (map shown ts)) (bind_gives (body_type p here (type_view t)) (λ v. bind rest (λ vs. gives (more_source_types v vs))) (shown u) g)
        ∙ gathered-more (map shown ts) (shown u) rest
        ∙ ap (λ ks. gathered ks rest) (sym (ap (map shown) e ∙ map-append shown ts (u ∷ [])))

    pub argument_fails : (r : Refusal) → IsFault (body_type p here (type_view t)) r → IsFault whole r
    argument_fails r f =
        fault_of come
        (bind_faults _ (λ us. gives (behind (map shown ts) us)) r (bind_faults (body_type p here (type_view t)) (λ u. bind rest (λ us. gives (more_source_types u us))) r f))

  pub arguments_end : length args ≤ i → whole ≡ gives (all_shown ts)
  arguments_end past =
      met ∙ ap (λ ks. gathered (map shown ts) (body_types p here (type_views_of ks))) (drop_of_length-le args past)
      ∙ bind_gives (body_types p here (type_views_of [])) (λ us. gives (behind (map shown ts) us)) no_source_types refl ∙ ap gives (all-behind (map shown ts))
