-- Text as octets: a word in quotes is the list of its characters' numbers.
use Rattle.std.specs.Prelude.{ℕ, List}
use Prim.Native.Char.{code}
use Prim.Native.String.{String, [], ◌∷◌}
use mathlib.Core.List as list

unfoldable pub letters : String → List ℕ
letters [] = list.[]
letters (c ∷ s) = list.◌∷◌ (code c) (letters s)
