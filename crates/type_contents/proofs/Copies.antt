-- Copies in order.
use Rattle.std.proofs.Common.{◌≡◌, ◌∙◌, ap, List}
use Rattle.std.specs.List.{flat_map}
use Rattle.type_contents.specs.Items.{Item, Described}
use Rattle.type_contents.specs.Images.{Renaming, described_image}
use Rattle.type_contents.specs.Numbering.{new_image, new_kept}

pub same_images : (r s : Renaming) (xs ys : List Described) → r ≡ s → xs ≡ ys → flat_map (new_image (described_image r)) xs ≡ flat_map (new_image (described_image s)) ys
same_images r s xs ys e f = ap (λ z. flat_map (new_image (described_image z)) xs) e ∙ ap (flat_map (new_image (described_image s))) f

pub same_kept_images : (f g : List Item) (r s : Renaming) (xs ys : List Described) → f ≡ g → r ≡ s → xs ≡ ys → flat_map (new_kept f r) xs ≡ flat_map (new_kept g s) ys
same_kept_images f g r s xs ys d e h = ap (λ z. flat_map (new_kept z r) xs) d ∙ ap (λ z. flat_map (new_kept g z) xs) e ∙ ap (flat_map (new_kept g s)) h
