-- Each chosen image is one of the images.
use Rattle.std.proofs.Common.{ℕ, List, [], ◌∷◌, length, replicate, Option, Some, None, refl, subst}
use Rattle.std.proofs.lemmas.List.{length-replicate}
use Rattle.disk_model.specs.declared.event.Event.TheVariants as events
use Rattle.disk_model.specs.Images.{overwritten, Torn}
use Rattle.disk_model.specs.Steps.{Step, Wrote, Other, read_after, Left, LeftAfter, imaged, image_after, filled}
use Rattle.disk_model.specs.ReadsBack.{Torn-same, Torn-overwritten, CutShort-same}

-- a range that is filled, or left as it was, is a torn write
Torn-filled : (fill : Option ℕ) (place amount : ℕ) (c : List ℕ) → Torn place amount c (filled fill c place amount)
Torn-filled (Some byte) place amount c =
    subst (λ (n : ℕ). Torn place n c (overwritten c place (replicate amount byte))) (length-replicate amount byte) (Torn-overwritten place (replicate amount byte) c)
Torn-filled None place amount c = Torn-same place amount c

-- a chosen image after a step is one of the images after it
LeftAfter-image : (before : List ℕ → Type 0) (fill : Option ℕ) (bytes image : List ℕ) (step : Step) → before image → LeftAfter before bytes step (image_after fill bytes image step)
LeftAfter-image before fill bytes image (Wrote place written) was = (image, was, Torn-filled fill place (length written) image)
LeftAfter-image before fill bytes image (Other (events.WriteFailed place amount)) was = (image, was, Torn-filled fill place amount image)
LeftAfter-image before fill bytes image (Other (events.Cut to)) was = (image, was, CutShort-same to image)
LeftAfter-image before fill bytes image (Other (events.CutFailed to)) was = (image, was, CutShort-same to image)
LeftAfter-image before fill bytes image (Other events.Sync) was = refl
LeftAfter-image before fill bytes image (Other events.SyncFailed) was = was

-- a chosen image after these steps is one of the images after them
pub Left-imaged : (before : List ℕ → Type 0) (fill : Option ℕ) (bytes image : List ℕ) (steps : List Step) → before image → Left before bytes steps (imaged fill bytes image steps)
Left-imaged before fill bytes image [] was = was
Left-imaged before fill bytes image (step ∷ steps) was =
    Left-imaged (LeftAfter before bytes step) fill (read_after bytes step) (image_after fill bytes image step) steps (LeftAfter-image before fill bytes image step was)
