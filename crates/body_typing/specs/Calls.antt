-- What crates above name of `call_typing`.
unfoldable pub use Rattle.call_typing.specs.Calls.{used}
pub use Rattle.call_typing.specs.Constructors.{access_in, constructors_of, default_flags}
unfoldable pub use Rattle.call_typing.specs.Constructors.{constructor_for, constructors_in}
pub use Rattle.call_typing.specs.Creations.{is_inner, is_round, made_of}
unfoldable pub use Rattle.call_typing.specs.Creations.{anonymous_creation, implicit_constructor_call, own_constructor_call, superclass_constructor_call}
pub use Rattle.call_typing.specs.Overloads.{Candidate}
unfoldable pub use Rattle.call_typing.specs.Overloads.{choice, chosen}
