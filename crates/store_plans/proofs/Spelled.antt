-- The record of a change.
use Rattle.std.proofs.Common.{◌<◌, ℕ, List, length, Some, None, sym, subst, arith}
use Rattle.disk_trait.specs.Forms.{form_in_use}
use Rattle.media_rows.specs.declared.change.Change.{Change}
use Rattle.media_rows.specs.declared.change.Change.TheVariants as changes
use Rattle.change_codec.specs.Changes.{all_changes, change_spelling, last_spelling, later_spelling}
use Rattle.change_codec.specs.Codec.{SpellsChange}

-- a change's spelling begins with the byte of its kind
some_spelled : (change : Change) → 0 < length ((change_spelling form_in_use).meaning.spell change)
unfolding all_changes later_spelling last_spelling
some_spelled (changes.PutFlow moment flow) = omega arith
some_spelled (changes.SetFlow moment flow part) = omega arith
some_spelled (changes.SetSource moment source part) = omega arith
some_spelled (changes.DropFlow moment flow) = omega arith
some_spelled (changes.Allocate moment flow objects) = omega arith
some_spelled (changes.Store moment object start size None) = omega arith
some_spelled (changes.Store moment object start size (Some digest)) = omega arith
some_spelled (changes.AddSegments moment flow segments) = omega arith
some_spelled (changes.CutSegments moment flow range) = omega arith
some_spelled (changes.AskDelete moment flow range delete_flow) = omega arith
some_spelled (changes.DeleteStep moment) = omega arith
some_spelled (changes.SweepStep moment) = omega arith
some_spelled (changes.PutHook moment hook) = omega arith
some_spelled (changes.DropHook moment url) = omega arith
some_spelled (changes.Delivered moment event) = omega arith

-- so a payload isn't empty
pub some_payload : (payload : List ℕ) (change : Change) → SpellsChange form_in_use payload change → 0 < length payload
some_payload payload change spells = subst (λ (bytes : List ℕ). 0 < length bytes) (sym spells.whole) (some_spelled change)
