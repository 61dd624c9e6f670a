-- What the definitions see of the drives that a call is lent (01, The array). Assumes nothing.
use Rattle.spec.specs.Drives.{View, view_of}
use Rattle.disk_drives.specs.declared.Drives.{Drives}

-- 01, The array; 02, item 4: zones by drive, and which are offline
abbrev pub viewed : Drives → View
viewed d = view_of d.p d.offline.now d.image.now d.pointers.now
