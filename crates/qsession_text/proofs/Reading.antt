-- What a text is read as, and how that is told.
use Rattle.std.proofs.Common.{◌≡◌, ◌≤◌, ℕ, List, [], ap, length, Option, Some, None, Result, Ok, Err, IfOk, IfErr, IsUtf8, arith, refl, subst, sym, ◌∙◌}
use Rattle.std.proofs.lemmas.Bool.{cond-false, cond-true, false_from_ne_true}
use Rattle.std.proofs.lemmas.Option.{same_Some}
use Rattle.std.proofs.lemmas.Str.{IsUtf8-from_is_utf8, is_utf8-from_IsUtf8}
use Rattle.std.specs.Str.{is_utf8}
use Rattle.qplain.specs.Setups.{Setting}
use Rattle.qtext_config.specs.ConfigFaults.{Cause, Duplicate, EndsFor, Field, NoZero, Range, Text, cause_of, config_fault_number}
use Rattle.qtext_config.specs.Configs.{ReadsSetup, setting_in}
use Rattle.qtext_config.specs.declared.config_fault.ConfigFault.{ConfigFault}
use Rattle.qtext_config.specs.declared.config_fault.ConfigFault.TheVariants as fault
use Rattle.qsession.specs.Holdings.{Holding}
use Rattle.qsession.specs.Tellings.{IsPut, room_code}
use Rattle.qsession_text.specs.Openings.{IsOpened, IsRead, IsRefused, IsReadingTold, cause_code, config_in, key_of}

-- ---- what bytes are read as

config-utf8 : (bytes : List ℕ) → IsUtf8 bytes → config_in bytes ≡ setting_in bytes
config-utf8 bytes utf8 = cond-true (is_utf8 bytes) (setting_in bytes) (Err Text) (is_utf8-from_IsUtf8 bytes utf8)

config-other : (bytes : List ℕ) → (IsUtf8 bytes → ⊥) → config_in bytes ≡ Err Text
config-other bytes other =
    cond-false (is_utf8 bytes) (setting_in bytes) (Err Text) (false_from_ne_true (is_utf8 bytes) (λ is. other (IsUtf8-from_is_utf8 bytes is)))

-- bytes that are no UTF-8 are no text
pub ends-text : (bytes : List ℕ) → (IsUtf8 bytes → ⊥) → EndsFor fault.Text (config_in bytes)
ends-text bytes other cause is = config-other bytes other ∙ ap Err (same_Some Text cause is)

-- what was read of the text that they are
pub reads-bytes : {A : Type 0} (view : A → Setting) (answer : Result A ConfigFault) (bytes text : List ℕ) → IsUtf8 bytes → text ≡ bytes
    → ReadsSetup view answer (setting_in text) → ReadsSetup view answer (config_in bytes)
reads-bytes view answer bytes text utf8 is reads =
    subst (λ (r : Result Setting Cause). ReadsSetup view answer r) (sym (config-utf8 bytes utf8 ∙ ap setting_in (sym is))) reads

-- the setup that was read is of the setting, and a fault is the cause for which there is none
pub reads-ok : {A : Type 0} (view : A → Setting) (answer : Result A ConfigFault) (read : Result Setting Cause) → ReadsSetup view answer read
    → IfOk answer (λ a. IsRead (view a) read)
reads-ok view (Ok a) (Ok given) reads = reads
reads-ok view (Ok a) (Err cause) reads = reads
reads-ok view (Err f) read reads = tt

pub reads-err : {A : Type 0} (view : A → Setting) (answer : Result A ConfigFault) (read : Result Setting Cause) → ReadsSetup view answer read
    → IfErr answer (λ f. EndsFor f read)
reads-err view (Ok a) read reads = tt
reads-err view (Err f) read reads = reads

-- ---- how it is told

-- a cause for which the reading ended
told-cause : (f : ConfigFault) (cause : Cause) (read : Result Setting Cause) (buffer : List ℕ) (len number : ℕ) → cause_of f ≡ Some cause
    → EndsFor f read → IsRefused cause buffer len number → IsReadingTold read buffer len number
told-cause f cause read buffer len number is ends refused =
    subst (λ (r : Result Setting Cause). IsReadingTold r buffer len number) (sym (ends cause is)) refused

-- the key of a field, put into a buffer
has_room : (count len room : ℕ) → len ≡ count → len ≤ room → room_code count room ≡ 0
has_room count len room is fits = grind (arith, is, fits)

pub told-field : (f : ConfigFault) (key : List ℕ) (read : Result Setting Cause) (buffer : List ℕ) (len put : ℕ) → cause_of f ≡ Some (Field key)
    → EndsFor f read → IsPut key buffer len put → IsReadingTold read buffer len 52
told-field f key read buffer len put is ends told =
    told-cause f (Field key) read buffer len 52 is ends
    (record {
      number_is = refl;
      len_is = told.len_is;
      key = λ room. told.front (told.number_is ∙ has_room (length key) len (length buffer) told.len_is room);
    })

-- a cause that names no key
told-plain : (f : ConfigFault) (cause : Cause) (read : Result Setting Cause) (buffer : List ℕ) → cause_of f ≡ Some cause → key_of cause ≡ []
    → EndsFor f read → IsReadingTold read buffer 0 (cause_code cause)
told-plain f cause read buffer is none ends =
    told-cause f cause read buffer 0 (cause_code cause) is ends
    (record { number_is = refl; len_is = sym (ap length none); key = λ room. sym none })

pub told-other : (f : ConfigFault) (read : Result Setting Cause) (buffer : List ℕ) → (f ≡ fault.Memory → ⊥) → ((key : _) → f ≡ fault.Field key → ⊥)
    → EndsFor f read → IsReadingTold read buffer 0 (config_fault_number f)
told-other fault.Text read buffer memory field ends = told-plain fault.Text Text read buffer refl refl ends
told-other (fault.Field key) read buffer memory field ends = absurd (field key refl)
told-other fault.Range read buffer memory field ends = told-plain fault.Range Range read buffer refl refl ends
told-other fault.Duplicate read buffer memory field ends = told-plain fault.Duplicate Duplicate read buffer refl refl ends
told-other fault.NoZero read buffer memory field ends = told-plain fault.NoZero NoZero read buffer refl refl ends
told-other fault.Memory read buffer memory field ends = absurd (memory refl)

-- a setting, of which a session was opened
pub told_opened : (new : Setting → Holding) (held : Option Holding) (read : Result Setting Cause) (buffer : List ℕ) (len : ℕ)
    → IsOpened new held read → IsReadingTold read buffer len 0
told_opened new (Some h) (Ok given) buffer len opened = refl
told_opened new (Some h) (Err cause) buffer len opened = absurd opened
told_opened new None read buffer len opened = absurd opened
