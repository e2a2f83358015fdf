-- A program as its units have it: the texts of names, what each unit imports, and the classes where they are written.
use Rattle.std.specs.Prelude.{ℕ, List, [], ◌++◌, map, Option, Some, None, codes}
use Rattle.std.specs.List.{join_with_byte}
use Rattle.je_base.specs.declared.span.NameId.{NameId}
use Rattle.je_base.specs.Names.{text_of}
use Rattle.je_table.specs.Library.{class_number}
use Rattle.je_ast.specs.declared.name.Identifier.{Identifier}
use Rattle.je_ast.specs.Types.{QualifiedName}
use Rattle.je_ast.specs.Trees.{CompilationUnit}
use Rattle.je_scopes.specs.Sites.{Site, sites}

pub record Source : Type 0 where
  pub texts : List (List ℕ)
  pub imports : List (List QualifiedName)
  pub sites : List Site

abbrev pub imports_of : CompilationUnit → List QualifiedName
imports_of u = u.imports

abbrev pub source : List (List ℕ) → List CompilationUnit → Source
source texts units = record { texts = texts; imports = map imports_of units; sites = sites units }

-- ---- the texts of names

abbrev pub or_empty : Option (List ℕ) → List ℕ
or_empty None = []
or_empty (Some text) = text

-- the text of a name; names are those of the program, so it is there
abbrev pub text_in : List (List ℕ) → NameId → List ℕ
text_in texts name = or_empty (text_of texts name)

abbrev pub part_text : List (List ℕ) → Identifier → List ℕ
part_text texts part = text_in texts part.name

-- a qualified name as one text
abbrev pub full_text : List (List ℕ) → List Identifier → List ℕ
full_text texts parts = join_with_byte 46 (map (part_text texts) parts)

-- the class of the library of a full name (JLS 6.7)
abbrev pub library_class : List (List ℕ) → List Identifier → Option ℕ
library_class texts parts = class_number (full_text texts parts)

-- the class of `java.lang` of a simple name (JLS 7.5.5)
abbrev pub implicit_class : List (List ℕ) → NameId → Option ℕ
implicit_class texts name = class_number (codes "java.lang." ++ text_in texts name)
