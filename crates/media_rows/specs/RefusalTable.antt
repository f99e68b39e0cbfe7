-- The table of refusals: each one's number, its status as an answer (RFC 9110, section 15) and its
-- name. The numbers give the order in which those of one request are looked for, up to the
-- library's own rules, whose order each command has for itself. Our own profile of the
-- Time-addressable Media Store.
use Rattle.std.specs.Prelude.{ℕ, List, codes}
use Rattle.media_rows.specs.declared.refusal.Refusal.{Refusal}
use Rattle.media_rows.specs.declared.refusal.Refusal.TheVariants as refusals

-- a refusal's number
abbrev pub refusal_number : Refusal → ℕ
refusal_number refusals.BadHead = 1
refusal_number refusals.BadFraming = 2
refusal_number refusals.LengthRequired = 3
refusal_number refusals.TooLarge = 4
refusal_number refusals.Coding = 5
refusal_number refusals.NoRoute = 6
refusal_number refusals.NoMethod = 7
refusal_number refusals.NotJson = 8
refusal_number refusals.Fractional = 9
refusal_number (refusals.Missing member) = 10
refusal_number (refusals.WrongKind member) = 11
refusal_number (refusals.TooLong member) = 12
refusal_number (refusals.OutOfRange member) = 13
refusal_number (refusals.BadTimerange member) = 14
refusal_number (refusals.BadQuery name) = 15
refusal_number refusals.NoSource = 16
refusal_number refusals.NoFlow = 17
refusal_number refusals.UnknownObject = 18
refusal_number refusals.NoRequest = 19
refusal_number (refusals.NotSet part) = 20
refusal_number refusals.Deleting = 21
refusal_number refusals.ReadOnly = 22
refusal_number refusals.SourceFormat = 23
refusal_number refusals.FlowChanged = 24
refusal_number refusals.CollectsItself = 25
refusal_number (refusals.CollectedMissing id) = 26
refusal_number (refusals.IdTaken object) = 27
refusal_number refusals.OtherBytes = 28
refusal_number (refusals.NoObject object) = 29
refusal_number (refusals.Overlap range) = 30
refusal_number refusals.JournalFull = 31
refusal_number refusals.MediaFull = 32
refusal_number (refusals.ObjectDamaged kept found) = 33

-- the status with which a refusal is answered
abbrev pub refusal_status : Refusal → ℕ
refusal_status refusals.BadHead = 400
refusal_status refusals.BadFraming = 400
refusal_status refusals.LengthRequired = 411
refusal_status refusals.TooLarge = 413
refusal_status refusals.Coding = 415
refusal_status refusals.NoRoute = 404
refusal_status refusals.NoMethod = 405
refusal_status refusals.NotJson = 400
refusal_status refusals.Fractional = 400
refusal_status (refusals.Missing member) = 400
refusal_status (refusals.WrongKind member) = 400
refusal_status (refusals.TooLong member) = 400
refusal_status (refusals.OutOfRange member) = 400
refusal_status (refusals.BadTimerange member) = 400
refusal_status (refusals.BadQuery name) = 400
refusal_status refusals.NoSource = 404
refusal_status refusals.NoFlow = 404
refusal_status refusals.UnknownObject = 404
refusal_status refusals.NoRequest = 404
refusal_status (refusals.NotSet part) = 404
refusal_status refusals.Deleting = 409
refusal_status refusals.ReadOnly = 403
refusal_status refusals.SourceFormat = 400
refusal_status refusals.FlowChanged = 400
refusal_status refusals.CollectsItself = 400
refusal_status (refusals.CollectedMissing id) = 400
refusal_status (refusals.IdTaken object) = 409
refusal_status refusals.OtherBytes = 409
refusal_status (refusals.NoObject object) = 400
refusal_status (refusals.Overlap range) = 400
refusal_status refusals.JournalFull = 507
refusal_status refusals.MediaFull = 507
refusal_status (refusals.ObjectDamaged kept found) = 410

-- a refusal's name, as the `type` of the answer's body
abbrev pub refusal_name : Refusal → List ℕ
refusal_name refusals.BadHead = codes "BadHead"
refusal_name refusals.BadFraming = codes "BadFraming"
refusal_name refusals.LengthRequired = codes "LengthRequired"
refusal_name refusals.TooLarge = codes "TooLarge"
refusal_name refusals.Coding = codes "Coding"
refusal_name refusals.NoRoute = codes "NoRoute"
refusal_name refusals.NoMethod = codes "NoMethod"
refusal_name refusals.NotJson = codes "NotJson"
refusal_name refusals.Fractional = codes "Fractional"
refusal_name (refusals.Missing member) = codes "Missing"
refusal_name (refusals.WrongKind member) = codes "WrongKind"
refusal_name (refusals.TooLong member) = codes "TooLong"
refusal_name (refusals.OutOfRange member) = codes "OutOfRange"
refusal_name (refusals.BadTimerange member) = codes "BadTimerange"
refusal_name (refusals.BadQuery name) = codes "BadQuery"
refusal_name refusals.NoSource = codes "NoSource"
refusal_name refusals.NoFlow = codes "NoFlow"
refusal_name refusals.UnknownObject = codes "UnknownObject"
refusal_name refusals.NoRequest = codes "NoRequest"
refusal_name (refusals.NotSet part) = codes "NotSet"
refusal_name refusals.Deleting = codes "Deleting"
refusal_name refusals.ReadOnly = codes "ReadOnly"
refusal_name refusals.SourceFormat = codes "SourceFormat"
refusal_name refusals.FlowChanged = codes "FlowChanged"
refusal_name refusals.CollectsItself = codes "CollectsItself"
refusal_name (refusals.CollectedMissing id) = codes "CollectedMissing"
refusal_name (refusals.IdTaken object) = codes "IdTaken"
refusal_name refusals.OtherBytes = codes "OtherBytes"
refusal_name (refusals.NoObject object) = codes "NoObject"
refusal_name (refusals.Overlap range) = codes "Overlap"
refusal_name refusals.JournalFull = codes "JournalFull"
refusal_name refusals.MediaFull = codes "MediaFull"
refusal_name (refusals.ObjectDamaged kept found) = codes "ObjectDamaged"
