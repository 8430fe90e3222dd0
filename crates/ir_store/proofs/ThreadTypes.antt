-- Types, literals and kinds of operations cross to other threads.
use denote.Param.Send.{IsSend, IsSync, recorded_send, recorded_sync, enum_send, enum_sync}
use Rattle.std.proofs.Crossing.{Box-send, Box-sync, Vec-send, Vec-sync}
use Rattle.io_edge.proofs.byte_text.Text.TheSendSync as text
use Rattle.hw_model.specs.contracts.types.Ty as ty
use Rattle.hw_model.proofs.types.Ty.TheLaws.TheKnot.{send-Ty, sync-Ty}
use Rattle.hw_model.specs.contracts.kinds.LiteralList as literal_list
use Rattle.hw_model.proofs.kinds.Literal.TheLaws.TheKnot.{send-LiteralList, sync-LiteralList}
use Rattle.hw_model.proofs.kinds.Integer.TheSendSync as integer
use Rattle.hw_model.specs.contracts.kinds.Instance as instance_type
use Rattle.hw_model.proofs.kinds.Instance.TheSendSync as instance
use Rattle.hw_model.proofs.kinds.Reset.TheSendSync as reset
use Rattle.hw_model.proofs.kinds.Predicate.TheSendSync as predicate
use denote.Enum.Declared.{shape}
use Rattle.hw_model.specs.contracts.kinds.OpKind as op_kind
use Rattle.ir_store.proofs.ThreadNumbers.{u32_send, u32_sync}

-- ---- types

pub ty_field_send : IsSend ty.the_field.row
ty_field_send = send-Ty u32_send Box-send text.the_send Vec-send

pub ty_field_sync : IsSync ty.the_field.row
ty_field_sync = sync-Ty u32_sync Box-sync text.the_sync Vec-sync

pub ty_send : IsSend ty.the_row
ty_send = recorded_send ty.the_field.row _ _ ty.the_type.to_one ty_field_send

pub ty_sync : IsSync ty.the_row
ty_sync = recorded_sync ty.the_field.row _ _ ty.the_type.to_one ty_field_sync

-- ---- literals

literals_field_send : IsSend literal_list.the_field.row
literals_field_send = send-LiteralList integer.the_field_send ty_field_send Vec-send

literals_field_sync : IsSync literal_list.the_field.row
literals_field_sync = sync-LiteralList integer.the_field_sync ty_field_sync Vec-sync

-- ---- kinds of operations

pub kind_field_send : IsSend op_kind.the_field.row
kind_field_send = enum_send (shape op_kind.the_type) (
  tt,
  (
    tt,
    (
      tt,
      (
        tt,
        (
          tt,
          (
            tt,
            (
              tt,
              (
                tt,
                (
                  tt,
                  (
                    tt,
                    (
                      tt,
                      (
                        tt,
                        (
                          tt,
                          (
                            (predicate.the_field_send, tt),
                            (
                              tt,
                              (
                                (u32_send, tt),
                                (
                                  tt,
                                  (
                                    tt,
                                    (
                                      tt,
                                      (
                                        (integer.the_field_send, tt),
                                        (
                                          (literals_field_send, tt),
                                          (
                                            tt,
                                            (
                                              tt,
                                              (
                                                tt,
                                                (
                                                  tt,
                                                  (
                                                    tt,
                                                    (
                                                      tt,
                                                      (
                                                        (text.the_send, tt),
                                                        (
                                                          (text.the_send, tt),
                                                          (
                                                            tt,
                                                            (
                                                              tt,
                                                              (
                                                                tt,
                                                                (
                                                                  (Box-send instance_type.the_row instance.the_send, tt),
                                                                  (tt, ((reset.the_field_send, tt), ((reset.the_field_send, tt), ((reset.the_field_send, tt), (tt, tt))))),
                                                                ),
                                                              ),
                                                            ),
                                                          ),
                                                        ),
                                                      ),
                                                    ),
                                                  ),
                                                ),
                                              ),
                                            ),
                                          ),
                                        ),
                                      ),
                                    ),
                                  ),
                                ),
                              ),
                            ),
                          ),
                        ),
                      ),
                    ),
                  ),
                ),
              ),
            ),
          ),
        ),
      ),
    ),
  ),
)

pub kind_field_sync : IsSync op_kind.the_field.row
kind_field_sync = enum_sync (shape op_kind.the_type) (
  tt,
  (
    tt,
    (
      tt,
      (
        tt,
        (
          tt,
          (
            tt,
            (
              tt,
              (
                tt,
                (
                  tt,
                  (
                    tt,
                    (
                      tt,
                      (
                        tt,
                        (
                          tt,
                          (
                            (predicate.the_field_sync, tt),
                            (
                              tt,
                              (
                                (u32_sync, tt),
                                (
                                  tt,
                                  (
                                    tt,
                                    (
                                      tt,
                                      (
                                        (integer.the_field_sync, tt),
                                        (
                                          (literals_field_sync, tt),
                                          (
                                            tt,
                                            (
                                              tt,
                                              (
                                                tt,
                                                (
                                                  tt,
                                                  (
                                                    tt,
                                                    (
                                                      tt,
                                                      (
                                                        (text.the_sync, tt),
                                                        (
                                                          (text.the_sync, tt),
                                                          (
                                                            tt,
                                                            (
                                                              tt,
                                                              (
                                                                tt,
                                                                (
                                                                  (Box-sync instance_type.the_row instance.the_sync, tt),
                                                                  (tt, ((reset.the_field_sync, tt), ((reset.the_field_sync, tt), ((reset.the_field_sync, tt), (tt, tt))))),
                                                                ),
                                                              ),
                                                            ),
                                                          ),
                                                        ),
                                                      ),
                                                    ),
                                                  ),
                                                ),
                                              ),
                                            ),
                                          ),
                                        ),
                                      ),
                                    ),
                                  ),
                                ),
                              ),
                            ),
                          ),
                        ),
                      ),
                    ),
                  ),
                ),
              ),
            ),
          ),
        ),
      ),
    ),
  ),
)

pub kind_send : IsSend op_kind.the_row
kind_send = recorded_send op_kind.the_field.row _ _ op_kind.the_type.to_one kind_field_send

pub kind_sync : IsSync op_kind.the_row
kind_sync = recorded_sync op_kind.the_field.row _ _ op_kind.the_type.to_one kind_field_sync
