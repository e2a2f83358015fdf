-- The files one after another: their tokens so far, or the first fault.
use Rattle.std.proofs.Common.{◌≡◌, ℕ, zero, suc, ◌+◌, ◌<◌, ◌≤◌, ◌^◌, List, [], ◌∷◌, ◌++◌, length, take, drop, get_or, map, All, Vec, refl, sym, ap, ◌∙◌, subst, arith, length-take-le, take_all}
use Rattle.std.specs.declared.alloc.Global.{Global}
use Rattle.std.proofs.lemmas.List.{map_more, map-append, length-map}
use Rattle.std.proofs.lemmas.List.Elements.{All-nil, All-push}
use Rattle.je_base.specs.declared.span.Span.{Span}
use Rattle.je_lexer.specs.Lexing.{HasTokens, HasFault, IsTokens}
use Rattle.je_lexer.specs.declared.fault.FaultKind.{FaultKind}
use Rattle.je_lexer.specs.declared.file_tokens.Tokens.{Tokens}
use Rattle.je_lexer.proofs.Whole.{tokens_are_whole}
use Rattle.host_text.specs.declared.rules.Rule.TheVariants as rule
use Rattle.source_units.specs.Files.{FileTokens, AreTokens, bytes_of, file_tokens}
use Rattle.source_units.specs.Faults.{IsTokenFault, IsFirstTokenFault, IsRefusal}
use Rattle.source_units.specs.declared.refusal.Refusal.{Refusal}
use Rattle.source_units.specs.declared.refusal.Refusal.TheVariants as refusal
use Rattle.source_units.specs.way.Ready.{IsReady}
use Rattle.source_units.proofs.Few.{tokens_few}

-- ---- one file

pub ready : (file : ℕ) (bytes : List ℕ) (t : Tokens) → length bytes ≤ 2 ^ 20 → IsTokens file bytes t → length t.names ≤ length t.list.items → IsReady t
ready file bytes t small is names =
    let few = tokens_few file bytes t.list.items t.names t.texts.items is in
    record { whole = tokens_are_whole file bytes t.list.items t.names t.texts.items is; few = omega arith; few_names = omega arith }

pub refused : (file : ℕ) (bytes : List ℕ) (kind : FaultKind) (span : Span) → span.file ≡ file → HasFault bytes kind span.start span.end →
    IsTokenFault file bytes (record { rule = rule.Token kind; span = span })
refused file bytes kind span is there = record { kind = kind; is_rule = refl; is_file = is; there = there }

-- ---- all files

tokens_push : (n : ℕ) (files : List (List ℕ)) (fs : List FileTokens) (bytes : List ℕ) (f : FileTokens) → AreTokens n files fs →
    HasTokens (n + length files) bytes f.list f.names f.texts → AreTokens n (files ++ bytes ∷ []) (fs ++ f ∷ [])
tokens_push n _ _ bytes f AreTokens.no_files h =
    let e : n + 0 ≡ n = omega arith in
    AreTokens.more_files (subst (λ m. HasTokens m bytes f.list f.names f.texts) e h) AreTokens.no_files
tokens_push n _ _ bytes f (AreTokens.more_files {files = files} {fs = fs} first rest) h =
    let e : n + suc (length files) ≡ suc n + length files = omega arith in
    AreTokens.more_files first (tokens_push (suc n) files fs bytes f rest (subst (λ m. HasTokens m bytes f.list f.names f.texts) e h))

pub map_split : {X Y : Type 0} (f : X → Y) (xs : List X) (at : ℕ) (x : X) → at < length xs → x ≡ get_or xs at x → map f xs ≡ map f (take at xs) ++ f x ∷ map f (drop (suc at) xs)
map_split f [] at x less is = absurd (omega arith)
map_split f (y ∷ xs) zero x less is = ap (λ z. f z ∷ map f xs) (sym is)
map_split f (y ∷ xs) (suc at) x less is = ap (λ zs. f y ∷ zs) (map_split f xs at x (omega arith) is)

-- So many files have these tokens.
pub record AreLexed (files : List (Vec ℕ Global)) (at : ℕ) (all : List Tokens) : Type 0 where
  pub tokens : AreTokens 0 (bytes_of (take at files)) (map file_tokens all)
  pub are_ready : All IsReady all

pub begins : (files : List (Vec ℕ Global)) → AreLexed files 0 []
begins files = record { tokens = AreTokens.no_files; are_ready = All-nil IsReady }

earlier_files : (files : List (Vec ℕ Global)) (at : ℕ) → at ≤ length files → length (bytes_of (take at files)) ≡ at
earlier_files files at less = length-map (take at files) (λ file. file.items) ∙ length-take-le at files less

pub goes_on : (files : List (Vec ℕ Global)) (at : ℕ) (file : Vec ℕ Global) (all : List Tokens) (t : Tokens) → at < length files → file ≡ get_or files at file →
    (number : ℕ) (bytes : List ℕ) → number ≡ at → bytes ≡ file.items → IsTokens number bytes t → IsReady t → AreLexed files at all → AreLexed files (at + 1) (all ++ t ∷ [])
goes_on files at file all t less is number bytes same_number same_bytes given is_ready h =
    let has_tokens : IsTokens at file.items t = subst (λ bs. IsTokens at bs t) same_bytes (subst (λ m. IsTokens m bytes t) same_number given) in
    let before = bytes_of (take at files) in
    let count : length before ≡ at = earlier_files files at (omega arith) in
    let size : at ≡ 0 + length before = omega arith in
    let next : bytes_of (take (at + 1) files) ≡ before ++ file.items ∷ [] =
    map_more (λ (x : Vec ℕ Global). x.items) files at file less ∙ ap (λ (x : Vec ℕ Global). before ++ x.items ∷ []) (sym is) in
    let whole : map file_tokens (all ++ t ∷ []) ≡ map file_tokens all ++ file_tokens t ∷ [] = map-append file_tokens all (t ∷ []) in
    let more = tokens_push 0 before (map file_tokens all) file.items (file_tokens t) h.tokens (subst (λ m. IsTokens m file.items t) size has_tokens) in
    record { tokens = rw (next, whole) more; are_ready = All-push IsReady all t h.are_ready is_ready }

pub ends : (files : List (Vec ℕ Global)) (at : ℕ) (all : List Tokens) → length files ≤ at → AreLexed files at all → AreTokens 0 (bytes_of files) (map file_tokens all)
ends files at all over h = subst (λ xs. AreTokens 0 (bytes_of xs) (map file_tokens all)) (take_all at files over) h.tokens

pub fails : (files : List (Vec ℕ Global)) (at : ℕ) (file : Vec ℕ Global) (all : List Tokens) (r : Refusal) → at < length files → file ≡ get_or files at file →
    (number : ℕ) (bytes : List ℕ) → number ≡ at → bytes ≡ file.items → IsRefusal (IsTokenFault number bytes) r → AreLexed files at all →
    IsRefusal (IsFirstTokenFault (bytes_of files)) r
fails files at file all refusal.Memory less is number bytes same_number same_bytes given h = tt
fails files at file all (refusal.Fault x) less is number bytes same_number same_bytes given h =
    let fault : IsTokenFault at file.items x = subst (λ bs. IsTokenFault at bs x) same_bytes (subst (λ m. IsTokenFault m bytes x) same_number given) in
    let before = bytes_of (take at files) in
    let size : at ≡ length before = sym (earlier_files files at (omega arith)) in
    record {
      earlier = before;
      bytes = file.items;
      later = bytes_of (drop (suc at) files);
      parts = map_split (λ (x : Vec ℕ Global). x.items) files at file less is;
      tokens = map file_tokens all;
      lexed = h.tokens;
      fault = subst (λ m. IsTokenFault m file.items x) size fault;
    }
