-- A member of a class by whether its method has a body, and a call from outside that goes on to what it comes to.
use Rattle.std.proofs.Common.{◌≡◌, ℕ, List, Option, Some, None, sym, ap, ◌∙◌}
use Rattle.std.specs.Prelude.{Result, Ok, Err, IfOk, is_none, if◌then◌else◌}
use Rattle.je_core.specs.declared.program.Program.{Program}
use Rattle.je_core.specs.declared.stmt.Stmt.{Stmt}
use Rattle.je_core.specs.declared.types.ClassId.{ClassId}
use Rattle.je_core.specs.declared.types.Ty.{Ty}
use Rattle.je_core.specs.declared.value.ObjId.{ObjId}
use Rattle.je_core.specs.declared.value.Value.{Value}
use Rattle.je_core.specs.declared.value.Value.TheVariants.{Ref}
use Rattle.je_core.specs.Core.{CoreMethod, CoreProgram, CoreStmt}
use Rattle.je_core.specs.Defaults.{default_of}
use Rattle.je_core.specs.View.{program_view, stmt_view}
use Rattle.je_heap.specs.Contents.{Contents}
use Rattle.je_classes.specs.Dispatch.{dispatched}
use Rattle.je_classes.specs.Members.{method_of}
use Rattle.je_java.specs.Classes.{locals_for, method_at}
use Rattle.je_java.specs.World.{type_of}
use Rattle.je_java.specs.LibraryMembers.{run_library}
use Rattle.je_java.specs.Meaning.{Meanings, ends, hand_on, java, member_at, nobody, replied as the_replied, replied_virtual, run_member, run_method}
use Rattle.je_java.specs.Steps.{Answer, Computation, Done, Exits, Nothing, Own, Run, State, bind, deref, framed, get_receiving_class, get_type, need, on_some, out_of, receiving_class, ret, seq, with_own}
use Rattle.machine_parts.specs.declared.frame.Context.{Context}
use Rattle.machine_parts.specs.declared.frame.Control.{Control}
use Rattle.machine_parts.specs.declared.frame.Reply.{Reply}
use Rattle.machine_parts.specs.Outermost.{at_end, outermost, replied}
use Rattle.machine_parts.specs.Ways.{ended, state, state_of}
use Rattle.machine_parts.specs.way.Clauses.{BeginsBody, GoesToReply}

module _ (p : CoreProgram) (m : Meanings) (class : ClassId) (at : ℕ) (method : CoreMethod) (this : Value) (given : List Value) where
  pub with_body : (body : CoreStmt) → Some body ≡ method.body → run_method m method this given ≡ run_member p m (member_at class at) method this given
  with_body body e = ap (λ (b : Option CoreStmt). if is_none b then run_library p class at this given else run_method m method this given) e

  pub without_body : None ≡ method.body → run_library p class at this given ≡ run_member p m (member_at class at) method this given
  without_body e = ap (λ (b : Option CoreStmt). if is_none b then run_library p class at this given else run_method m method this given) e

-- what a method's body comes to with its receiver and its arguments, by what runs it
abbrev run_body : (CoreStmt → Computation Nothing) → CoreMethod → Value → List Value → Computation Value
run_body run method this given =
    bind (need method.body) (λ body. framed (record { this = this; locals = locals_for method given }) (default_of method.returns) (run body))

-- what a body comes to is the reply, also where it ends without a return
body_replies : (run : CoreStmt → Computation Nothing) (method : CoreMethod) (this : Value) (given : List Value) (body : CoreStmt) (r : Reply) (s : State)
    → Some body ≡ method.body → replied r (at_end r) ≡ replied r (default_of method.returns)
    → ended (run body) (outermost r) (with_own s (record { this = this; locals = locals_for method given }))
    ≡ bind (run_body run method this given) (λ value. ret (replied r value)) Done ends (with_own s nobody)
unfolding ret bind need framed
body_replies run method this given body r s b e =
    ap (λ (o : Option Value). run body (λ u t. Done o (with_own t nobody)) (out_of nobody (λ v. Done (replied r v)) ends) (with_own s (record { this = this; locals = locals_for method given }))) e
    ∙ ap (λ (o : Option CoreStmt). bind (bind (need o) (λ c. framed (record { this = this; locals = locals_for method given }) (default_of method.returns) (run c))) (λ value. ret (replied r value)) Done ends (with_own s nobody)) b

module _ {E : Type 0} (program : Program) (old : Context) (before : Contents) (r : Reply) (new : Context) where
  -- by an equation between what is gone on to
  pub replies_alike : (after : Contents) (f g : CoreProgram → Meanings → Computation (Option Value))
      → f (program_view program) (java (program_view program)) ≡ g (program_view program) (java (program_view program))
      → (c : Result Control E) → IfOk c (GoesToReply program old before r new after f) → IfOk c (GoesToReply program old before r new after g)
  replies_alike after f g e (Ok c) h = λ outside. h outside ∙ ap (λ (n : Computation (Option Value)). n Done ends (with_own (state old before outside) nobody)) e
  replies_alike after f g e (Err x) h = h

  pub body_goes : (after : Contents) (run : Meanings → CoreStmt → Computation Nothing) (method : CoreMethod) (this : Value) (given locals : List Value) (body : Stmt)
      → locals ≡ locals_for method given → Some (stmt_view body) ≡ method.body → replied r (at_end r) ≡ replied r (default_of method.returns)
      → (c : Result Control E) → IfOk c (BeginsBody program old before new after (λ m. run m (stmt_view body)) (record { this = this; locals = locals }))
      → IfOk c (GoesToReply program old before r new after (λ p m. bind (run_body (run m) method this given) (λ value. ret (replied r value))))
  body_goes after run method this given locals body l b e (Ok c) h =
      λ outside. h (outermost r) outside
      ∙ ap (λ (ls : List Value). ended (run (java (program_view program)) (stmt_view body)) (outermost r) (state_of old.units old.begun before outside (record { this = this; locals = ls }))) l
      ∙ body_replies (run (java (program_view program))) method this given (stmt_view body) r (state old before outside) b e
  body_goes after run method this given locals body l b e (Err x) h = h

there : {A : Type 0} (o : Option A) (a : A) (go : A → Answer) → o ≡ Some a → on_some o go ≡ go a
there o a go e = ap (λ o'. on_some o' go) e

-- a call on an object is one of the method that its class has, where the arguments are taken
pub replied_first : (p : CoreProgram) (m : Meanings) (class by : ClassId) (at place : ℕ) (object : ObjId) (own : Ty) (named method : CoreMethod)
    (given : List Value) (go : Option Value → Run) (exits : Exits) (s : State)
    → type_of s.world.objects object.0 ≡ Some own → method_at p class at ≡ Some named
    → dispatched p (receiving_class own.dims own.base) (member_at class at) ≡ Some (member_at by place) → method_of p (member_at by place) ≡ Some method
    → ((next : Nothing → Run) (x : Exits) → ret tt next x s ≡ hand_on p named method given next x s)
    → replied_virtual p m class at object given go exits s ≡ the_replied p m (member_at by place) method (Ref object) given go exits s
unfolding ret bind seq need deref get_type get_receiving_class
replied_first p m class by at place object own named method given go exits s c n d f h =
    there _ own _ c ∙ there _ named _ n ∙ there _ (member_at by place) _ d ∙ there _ method _ f
    ∙ sym (h (λ u. the_replied p m (member_at by place) method (Ref object) given go exits) exits)
