-- Sorts that the code compares are equal where their numbers are. Assumes nothing.
use mathlib.Core.Path.{◌≡◌, refl}
use lib.Dec.{eqb}
use Rattle.std.specs.Prelude.{Option, Some, None}
use Rattle.std.specs.Option.{option_eq}
use Rattle.nodes.specs.declared.operators.Sort.{Sort}
use Rattle.nodes.specs.declared.operators.Sort.TheVariants.{Boolean, Sequence, Property}
use Rattle.nodes.specs.contracts.operators.SortPartialEq.TheImpl.{eq-value}
use Rattle.nodes.specs.Sorts.{sort_number}

pub same_sort : (a b : Option Sort) → option_eq eq-value.it a b ≡ eqb (sort_number a) (sort_number b)
same_sort None None = refl
same_sort None (Some Boolean) = refl
same_sort None (Some Sequence) = refl
same_sort None (Some Property) = refl
same_sort (Some Boolean) None = refl
same_sort (Some Boolean) (Some Boolean) = refl
same_sort (Some Boolean) (Some Sequence) = refl
same_sort (Some Boolean) (Some Property) = refl
same_sort (Some Sequence) None = refl
same_sort (Some Sequence) (Some Boolean) = refl
same_sort (Some Sequence) (Some Sequence) = refl
same_sort (Some Sequence) (Some Property) = refl
same_sort (Some Property) None = refl
same_sort (Some Property) (Some Boolean) = refl
same_sort (Some Property) (Some Sequence) = refl
same_sort (Some Property) (Some Property) = refl
