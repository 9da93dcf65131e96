-- What holds of the texts of images.
use Rattle.std.specs.Prelude.{◌≡◌, ℕ, ◌≤◌, List, Ok}
use Rattle.qplain.specs.Setups.{IsLawfulSetup, Setting, in_edition}
use Rattle.qplain.specs.State.{State, start}
use Rattle.qplain_laws.specs.Beginnings.{IsStateOf}
use Rattle.qplain_laws.specs.Laws.{KeepsSetup}
use Rattle.qtext_image.specs.Held.{IsStateTyped}
use Rattle.qtext_image.specs.Images.{MAX_PLACE, Said, image_of}
use Rattle.qtext_image.specs.Setups.{setup_of}
use Rattle.qtext_image.specs.Spelling.{image_text}

-- the image of a state that a store may begin with, of what types can hold and after no more calls than there may be
-- before an image, is read as its edition, its place and that state
abbrev pub ImagesAreReadAgain : Type 0
ImagesAreReadAgain =
    (setting : Setting) (place : ℕ) (S : State) → IsStateOf setting S → IsStateTyped S → place ≤ MAX_PLACE
    → image_of (image_text setting.edition place S)
    ≡ Ok (record { edition = setting.edition; place = place; state = S })

-- an image that is read is the one spelling of what it says, byte by byte
abbrev pub ImagesAreExact : Type 0
ImagesAreExact = (text : List ℕ) (said : Said) → image_of text ≡ Ok said
    → image_text said.edition said.place said.state ≡ text

-- an image that is read tells of a state that a store of the setup that it tells of may begin with
abbrev pub ImagesTellOfBeginnings : Type 0
ImagesTellOfBeginnings =
    (text : List ℕ) (said : Said) → image_of text ≡ Ok said
    → IsStateOf (in_edition said.edition (setup_of said.state)) said.state

-- so may one of any lawful setup that has the same bounds, file limit and principals
abbrev pub ImagesTellOfOtherBeginnings : Type 0
ImagesTellOfOtherBeginnings =
    (text : List ℕ) (said : Said) (setting : Setting) → image_of text ≡ Ok said → IsLawfulSetup setting
    → KeepsSetup (start setting) said.state → IsStateOf setting said.state
