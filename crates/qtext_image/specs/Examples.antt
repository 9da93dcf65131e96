-- A worked example of an image: the example setup after a create, a write of one byte and a stat by bob.
use Rattle.std.specs.Prelude.{◌≡◌, ◌∷◌, [], codes}
use Rattle.std.specs.List.{concat}
use Rattle.qplain.specs.declared.call.Call.TheVariants.{Stat, Write}
use Rattle.qplain.specs.declared.edition.Edition.TheVariants.{Two}
use Rattle.qplain.specs.State.{State, start}
use Rattle.qplain.specs.Step.{step}
use Rattle.qplain_laws.specs.Examples.{bob, create_a, example}
use Rattle.qtext_image.specs.Spelling.{image_text}

-- what a create, a write and a stat leave
abbrev pub after_three : State
after_three =
    let created = (step (start example) bob 0 create_a).0 in
    let written = (step created bob 0 (Write (codes "/a") 0 (codes "x"))).0 in
    (step written bob 0 (Stat (codes "/a"))).0

-- its image is this
abbrev pub WorkedImage : Type 0
WorkedImage = image_text Two 3 after_three ≡ concat (
    codes "quotafs image 2 at 3\n"
    ∷ codes "store 10 6 3\n"
    ∷ codes "graces 100 100\n"
    ∷ codes "user 0 root 0 1 0 0 0 0 - -\n"
    ∷ codes "user 1000 ann 0 0 8 16 0 0 - -\n"
    ∷ codes "user 1001 bob 1 1 0 0 0 0 - -\n"
    ∷ codes "group 0 root 1 2 0 0 0 0 - -\n"
    ∷ codes "group 100 staff 0 0 0 0 0 0 - -\n"
    ∷ codes "dir 1 0 0 -\n"
    ∷ codes "file 2 1001 0 - 1\n"
    ∷ codes "block 0 78\n"
    ∷ codes "name 1 a 2\n"
    ∷ codes "end\n" ∷ [])
