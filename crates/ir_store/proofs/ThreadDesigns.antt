-- Designs cross to other threads.
use denote.Param.Send.{IsSync, recorded_sync, struct_sync, plain_sync}
use denote.Struct.Declared.{shape}
use denote.Struct.Field.{u8-field, u32-field}
use Rattle.std.proofs.Crossing.{Vec-sync, sync as global_sync}
use Rattle.diag.proofs.refusal.Location.TheSendSync as location
use Rattle.io_edge.proofs.byte_text.Text.TheSendSync as text
use Rattle.ir_store.specs.contracts.design.Port as port
use Rattle.ir_store.specs.contracts.design.PortList as ports
use Rattle.ir_store.specs.contracts.design.Module as one
use Rattle.ir_store.specs.contracts.design.Design as design
use Rattle.std.specs.contracts.alloc.Global as global
use Rattle.std.specs.contracts.impls.GlobalAllocator.TheImpl.{ghosts}
use Rattle.std.specs.contracts.vec.Vec as vec
use Rattle.std.specs.contracts.hash.BuildHasherDefault as build_hasher
use Rattle.std.specs.contracts.hash.FoldHasher as fold_hasher
use Rattle.std.proofs.hash.BuildHasherDefault.TheSendSync as build_hasher_laws
use Rattle.std.proofs.hash.FoldHasher.TheSendSync as fold_hasher_laws
use Rattle.indexmap.proofs.map.IndexMap.TheSendSync as index_map
use Rattle.ir_store.proofs.ThreadNumbers.{u8_sync, u32_sync}
use Rattle.ir_store.proofs.ThreadTypes.{ty_field_sync}
use Rattle.ir_store.proofs.ThreadBodies.{dictionary_field_sync, body_field_sync}

-- ---- ports

port_sync : IsSync port.the_row
port_sync = recorded_sync port.the_field.row _ _ port.the_type.to_one (struct_sync (shape port.the_type) (text.the_sync, (plain_sync _ _ _ _ _, (ty_field_sync, (plain_sync _ _ _ _ _, tt)))))

ports_field_sync : IsSync ports.the_field.row
ports_field_sync = struct_sync (shape ports.the_type) (Vec-sync port.the_row port_sync, tt)

-- ---- modules

module_sync : IsSync one.the_row
module_sync = recorded_sync one.the_field.row _ _ one.the_type.to_one (struct_sync (shape one.the_type)
    (text.the_sync, (plain_sync _ _ _ _ _, (ports_field_sync, (dictionary_field_sync, (body_field_sync, (location.the_field_sync, tt)))))))

-- ---- designs

hasher_sync : IsSync (build_hasher.the_row fold_hasher.the_row)
hasher_sync = build_hasher_laws.the_sync fold_hasher.the_row fold_hasher_laws.the_sync

pub design_sync : IsSync design.the_row
design_sync = recorded_sync design.the_field.row _ _ design.the_type.to_one (struct_sync (shape design.the_type) (
  Vec-sync one.the_row module_sync,
  (
    index_map.the_sync (vec.the_row u8-field.row global.the_row ghosts) u32-field.row (build_hasher.the_row fold_hasher.the_row) global.the_row fold_hasher.the_row _ _ _ _ ghosts
        (Vec-sync u8-field.row u8_sync) u32_sync hasher_sync global_sync,
    tt,
  ),
))
