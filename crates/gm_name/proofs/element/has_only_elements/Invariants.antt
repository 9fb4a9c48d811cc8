use Rattle.std.proofs.Common.{◌≡◌, length}
use Rattle.std.specs.List.{list_all}
use Rattle.gm_name.specs.Element.{elements, is_element}
use Rattle.gm_name.proofs.element.has_only_elements.Given as goal

abbrev pub invariant-elements : goal.invariant-elements
invariant-elements l = list_all is_element (elements l.left) ≡ list_all is_element (elements l.fn.text)

abbrev pub decreases-elements : goal.decreases-elements
decreases-elements l = length l.left
