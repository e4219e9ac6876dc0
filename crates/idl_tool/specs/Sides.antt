-- Two listings with their trees.
use Rattle.std.specs.Prelude.{◌≡◌, map}
use Rattle.idl_json.specs.Listed.{row_of}
use Rattle.idl_tool.specs.Compared.{trees_of}
use Rattle.idl_tool.specs.declared.diff.Sides.{Sides}

-- the trees are those of the listings
pub record AreSides (sides : Sides) : Type 0 where
  pub was : map (λ tree. tree.now) sides.was.now ≡ trees_of (map row_of sides.old.now)
  pub is : map (λ tree. tree.now) sides.is.now ≡ trees_of (map row_of sides.new.now)
